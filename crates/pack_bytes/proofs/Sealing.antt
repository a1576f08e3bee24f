-- How the rules of sealing on bytes come out: they are the sealer's own, and two more that are passed by keys of the right
-- length and by a cipher's own key count.
use mathlib.Core.{Path.◌≡◌, Path.◌∙◌, List.List, List.◌∷◌, List.◌++◌, Logic.◌≢◌}
use Prim.Native.Nat.{ℕ}
use lib.ListN.{length}
use Rattle.octets.specs.Stream.{Cipher}
use Rattle.refusals.specs.{Numbers.accepted, Numbers.bad_key_count, Rules.first}
use Rattle.refusals.proofs.Faults.{refused_at, rule_passes, passes_among}
use Rattle.refusals.proofs.Settled.{first_here, first_later}
use Rattle.pack.specs.{Ciphers.cipher_of, Ciphers.count_of, Ciphers.picked, Layout.Parts, Faults.own_count}
use Rattle.pack.specs.Faults.{part_name_faults, other_faults, room_faults, seal_faults}
use Rattle.rings.specs.Ring.{keys_bytes}
use Rattle.pack_bytes.specs.Calls.{keys_fault, pack_seal_faults}

module _ (count : ℕ) (keys : List ℕ) (p : Parts) (size room : ℕ) (right : length keys ≡ keys_bytes) where
  abbrev cipher : Cipher
  cipher = cipher_of (picked count)

  -- under a cipher's own count the sealer decides
  pub sealer_decides : count ≡ count_of (picked count)
      → first (seal_faults cipher p size room) ≡ first (pack_seal_faults count keys p size room)
  unfolding seal_faults
  sealer_decides own =
      passes_among (part_name_faults p.name) (own_count cipher count) _ own
      ∙ rule_passes (keys_fault keys) _ right

  -- a name's fault comes before that of the count
  pub name_refuses : (n : ℕ) → n ≢ accepted → n ≡ first (part_name_faults p.name)
      → n ≡ first (pack_seal_faults count keys p size room)
  name_refuses n h e =
      first_here (part_name_faults p.name) _ tt n h e ∙ rule_passes (keys_fault keys) _ right

  pub count_refuses : accepted ≡ first (part_name_faults p.name) → count ≢ count_of (picked count)
      → bad_key_count ≡ first (pack_seal_faults count keys p size room)
  count_refuses e other =
      refused_at 0 (own_count cipher count ∷ (other_faults cipher p ++ room_faults size room)) other
      ∙ first_later (part_name_faults p.name) _ tt e
      ∙ rule_passes (keys_fault keys) _ right
