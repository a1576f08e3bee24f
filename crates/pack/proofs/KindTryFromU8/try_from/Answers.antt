-- The three counts name their ciphers, and no other count names any.
use Rattle.std.proofs.Common.{arith}
use Rattle.pack.specs.declared.Kind.TheVariants.{Trivium, Enocoro, Triad}
use Rattle.pack.proofs.Picking.{named, unnamed}
use Rattle.pack.proofs.KindTryFromU8.try_from.Goals as goal

pub returns-in-11 : goal.returns-in-11
returns-in-11 c = named Trivium c.in-11.is

pub returns-in-9 : goal.returns-in-9
returns-in-9 c = named Enocoro c.in-9.is

pub returns-in-13 : goal.returns-in-13
returns-in-13 c = named Triad c.in-13.is

pub returns-in_default : goal.returns-in_default
returns-in_default c = unnamed {count = c.args.count} (λ e. omega arith) (λ e. omega arith) (λ e. omega arith)
