-- The order of keys in PostgreSQL's `jsonb` objects (`lengthCompareJsonbStringValue`): a shorter key comes first, and of
-- two of one length the one with the lower byte where they first differ.
use Rattle.std.specs.Prelude.{ℕ, Bool, true, false, ◌||◌, ◌&&◌, List, [], ◌∷◌, length, nat_lt, ◌==◌}

abbrev pub bytes_before : List ℕ → List ℕ → Bool
bytes_before [] [] = false
bytes_before [] (b ∷ ys) = true
bytes_before (a ∷ xs) [] = false
bytes_before (a ∷ xs) (b ∷ ys) = nat_lt a b || (a == b && bytes_before xs ys)

abbrev pub key_before : List ℕ → List ℕ → Bool
key_before a b = nat_lt (length a) (length b) || (length a == length b && bytes_before a b)

-- each key comes before the next
abbrev pub rises : List (List ℕ) → Bool
rises [] = true
rises (a ∷ []) = true
rises (a ∷ b ∷ ks) = key_before a b && rises (b ∷ ks)
