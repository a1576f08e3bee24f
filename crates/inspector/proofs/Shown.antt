-- What a file without a fault has shown: every place that is read lies in it, and every number is within its limit.
use mathlib.Core.{Path.◌≡◌, List.List}
use Prim.Native.Nat.{ℕ, ◌+◌, ◌*◌, ◌≤◌}
use native.Mathlib.Omega.{arith}
use lib.ListN.{length}
use Rattle.octets.specs.Stream.{Cipher}
use Rattle.refusals.specs.Rules.{AllRight}
use Rattle.pack.specs.Faults.{faults_from_key, faults_from_samples, file_faults}
use Rattle.pack.specs.Places.{byte_at, name_count, key_place, key_number, value_place, sample_count, body_place, loop_place}
use Rattle.pack.specs.Places.{loop_count, tag_place, tag_end}
use Rattle.pack.proofs.AcceptedFiles.{key_right, sample_right, loop_right, tag_right}

pub record Shown (cipher : Cipher) (file : List ℕ) : Type 0 where
  pub name : name_count file ≤ 32
  pub number : key_number file ≤ 3
  pub count : byte_at file (key_place file) ≡ cipher.value_bytes + 1
  pub body : body_place cipher file ≡ value_place file + cipher.value_bytes + 4
  pub samples : sample_count cipher file ≤ 16384
  pub loop : loop_place cipher file ≡ body_place cipher file + 2 * sample_count cipher file
  pub loops : loop_count cipher file ≤ 8
  pub tag : tag_place cipher file ≡ loop_place cipher file + 1 + 8 * loop_count cipher file
  pub end : tag_end cipher (tag_place cipher file) ≡ length file

pub shown : (cipher : Cipher) (file : List ℕ) → AllRight (file_faults cipher file) → Shown cipher file
unfolding file_faults faults_from_key faults_from_samples
shown cipher file right =
    let key = key_right cipher file right in
    let sample = sample_right cipher file right in
    let loop = loop_right cipher file right in
    let tag = tag_right cipher file right in
    record {
      name = omega arith;
      number = omega arith;
      count = omega arith;
      body = omega arith;
      samples = omega arith;
      loop = omega arith;
      loops = omega arith;
      tag = omega arith;
      end = omega arith;
    }
