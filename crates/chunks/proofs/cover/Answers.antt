-- `chunks::cover` meets its contract: in each case the cipher's own call does it, and a record that was moved on has
-- the keystream from there on.
use Rattle.std.proofs.Common.{◌≡◌, ℕ, List, length, sym}
use mathlib.Core.Path.{subst}
use Rattle.octets.specs.Stream.{from, enciphered}
use Rattle.refusals.specs.{Outcome.outcome, Answers.answer}
use Rattle.ciphers.proofs.Enciphering.{covers}
use Rattle.trivium.specs.Calls as trivium
use Rattle.trivium.proofs.Theorems as TriviumLaws
use Rattle.enocoro.specs.Calls as enocoro
use Rattle.enocoro.proofs.Theorems as EnocoroLaws
use Rattle.triad.specs.Calls as triad
use Rattle.triad.proofs.Theorems as TriadLaws
use Rattle.chunks.specs.{Ahead.ahead, declared.Cipher.Cipher}
use Rattle.chunks.specs.declared.Cipher.TheVariants.{Trivium, Enocoro, Triad}
use Rattle.chunks.proofs.cover.Goals as goal

-- what covering bytes comes to: the cipher behind them, and what they are then
abbrev Covers : Cipher → List ℕ → Cipher → List ℕ → Type 0
Covers cipher bytes next after =
    (ahead next ≡ from (length bytes) (ahead cipher)) × (after ≡ enciphered (ahead cipher) bytes)

-- by the call of a cipher's own record: what it owes is that a record that was moved on has the keystream from there on
by_own : {Record : Type 0} (own : Record → Cipher) (moved : Record → ℕ → Record)
    → ((r : Record) (n : ℕ) → ahead (own (moved r n)) ≡ from n (ahead (own r))) → (r : Record) (bytes : List ℕ)
    {cipher : Cipher} {next : Record} {after : List ℕ} → cipher ≡ own r
    → outcome next after ≡ outcome (moved r (length bytes)) (enciphered (ahead (own r)) bytes)
    → Covers cipher bytes (own next) after
by_own own moved goes r bytes {next = next} {after = after} told e =
    subst (λ (k : Cipher). Covers k bytes (own next) after) (sym told)
    (covers answer (λ q. ahead (own q)) moved goes r bytes e)

pub returns-in-Trivium : goal.returns-in-Trivium
unfolding ahead
returns-in-Trivium c =
    by_own Trivium trivium.skipping TriviumLaws.goes_on _ c.args.bytes.now c.in-Trivium.is
    c.cover.ensures

pub returns-in-Enocoro : goal.returns-in-Enocoro
unfolding ahead
returns-in-Enocoro c =
    by_own Enocoro enocoro.skipping EnocoroLaws.stream_skip _ c.args.bytes.now c.in-Enocoro.is
    c.cover-in-Enocoro.ensures

pub returns-in-Triad : goal.returns-in-Triad
unfolding ahead
returns-in-Triad c =
    by_own Triad triad.skipping TriadLaws.goes_on _ c.args.bytes.now c.in-Triad.is
    c.cover-in-Triad.ensures
