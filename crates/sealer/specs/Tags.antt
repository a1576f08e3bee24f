-- The tag section by what stands in a file that is written up to it.
use Rattle.std.specs.Prelude.{ℕ, ◌-◌, List, [], ◌∷◌, ◌++◌}
use Rattle.octets.specs.{Buffers.slice, Rows.row, Stream.Cipher, Stream.enciphered}
use Rattle.pack.specs.Layout.{tag_widths}

-- the body begins at `body`, the loop section at `loop` and the tag section at `at`; what is in the body is enciphered
unfoldable pub tag_row : Cipher → List ℕ → List ℕ → List ℕ → ℕ → ℕ → ℕ → List ℕ
tag_row cipher key value file body loop at =
    row (tag_widths cipher)
    (cipher.tag_bytes
    ∷ cipher.tag key value (slice file 0 body ++ slice file loop (at - loop))
    (enciphered (cipher.stream key value) (slice file body (loop - body)))
    ∷ [])
