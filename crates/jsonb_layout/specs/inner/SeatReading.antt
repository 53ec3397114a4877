-- Where values lie, as it is computed from where the reading of a container stands. What a user believes is `Holds` of
-- `Seats`; that both say the same is proved in `proofs/`.
use Rattle.std.specs.Prelude.{ℕ, zero, suc, ◌+◌, ◌-◌, List, [], ◌∷◌, length, Option, Some, None}
use Rattle.jsonb_layout.specs.Layout.{Item}
use Rattle.jsonb_layout.specs.Options.{◌>>=◌}
use Rattle.jsonb_layout.specs.inner.Reading.{Place, item_at}
use Rattle.jsonb_layout.specs.Seats.{Seat, own_bytes, where_it_is}

-- the seat of an item whose entry word and whose piece are at these places of the slice, and whose piece is at `at` of the payload
abbrev pub seat_of : ℕ → ℕ → ℕ → Item → Seat
seat_of word begin at x =
    let own = own_bytes at x in
    record { at = where_it_is own word (begin + (length x.piece - length own)); kind = x.kind; bytes = own }

-- The payload begins at s in the slice, where the entry words that are left end. The item's is the first of them.
abbrev pub seat_at : ℕ → Place → Item → Seat
seat_at s p x = seat_of (s - length p.words) (s + p.at) p.at x

abbrev pub or_no_seats : Option (List Seat) → List Seat
or_no_seats None = []
or_no_seats (Some cs) = cs

-- the seats of so many items from a place on
unfoldable pub seats_at : ℕ → ℕ → Place → List Seat
seats_at s zero p = []
seats_at s (suc n) p = or_no_seats (item_at p >>= λ x. Some (seat_at s p x.0 ∷ seats_at s n x.1))
