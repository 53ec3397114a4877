-- The search for a key: what is found, whichever way the reader takes.
use Rattle.std.specs.Prelude.{ℕ, zero, suc, ◌*◌, ◌+◌, ◌^◌, ◌≤◌, ◌==◌, List, [], ◌∷◌, get_or, take, drop, Option, Some, None, option_map, bytes_eq, if◌then◌else◌}
use Rattle.std.specs.Int.{w32, w64, from_le_bytes, from_be_bytes}
use Rattle.jsonb_layout.specs.Options.{◌>>=◌, only_if}
use Rattle.jsonb_layout.specs.inner.Reading.{Place, item_at}

-- behind the first of so many items from a place on whose piece is the key
unfoldable pub behind_key : List ℕ → ℕ → Place → Option Place
behind_key k zero p = None
behind_key k (suc n) p = item_at p >>= λ x. if bytes_eq k x.0.piece then Some x.1 else behind_key k n x.1

-- the key at a place, and the place behind it; none where the item is no string
abbrev pub key_at : Place → Option (List ℕ × Place)
key_at p = item_at p >>= λ x. only_if (x.0.kind == 0) (Some (x.0.piece, x.1))

-- where keys end
abbrev pub keys_end : Option (List (List ℕ) × Place) → Option Place
keys_end r = option_map (λ x. x.1) r

-- the entry word with a number, of those that are left
abbrev pub word_at : ℕ → List ℕ → ℕ
word_at i words = from_le_bytes w32 (take 4 (drop (4 * i) words))

-- the first eight bytes as one number, of which the first counts most
abbrev pub first_eight : List ℕ → ℕ
first_eight xs =
    from_be_bytes w64
    (get_or xs 0 0 ∷ get_or xs 1 0 ∷ get_or xs 2 0 ∷ get_or xs 3 0 ∷ get_or xs 4 0 ∷ get_or xs 5 0 ∷ get_or xs 6 0 ∷ get_or xs 7 0 ∷ [])

-- from `old` to `new` there are at most so many steps as halving n keys takes
abbrev pub AreFew : ℕ → ℕ → ℕ → Type 0
AreFew n old new = (p : ℕ) × (2 ^ p ≤ 2 * n + 1) × (new ≤ old + 33 * p)
