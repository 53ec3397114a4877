-- The fields of a `Number`, and the decimal that they write. This project's own.
use Rattle.std.specs.Prelude.{◌≡◌, ℕ, ◌-◌, ◌*◌, ◌/◌, ◌^◌, ◌≤◌, pos, nat_abs, int_lt}
use Rattle.json_model.specs.Decimal.{Decimal as Written, signed}
use Rattle.json_exact.specs.declared.number.Number.TheInside.{Inside}

-- the record that contracts see
unfoldable pub written_with : Inside → Written
written_with n =
    record { digits = signed (int_lt n.decimal (pos 0)) (nat_abs n.decimal / 10 ^ (16383 - n.fraction_digits)); places = n.fraction_digits }

-- so many fraction digits write the decimal exactly
pub record IsWrittenWith (n : Inside) : Type 0 where
  pub few : n.fraction_digits ≤ 16383
  pub exact : (q : ℕ) × (nat_abs n.decimal ≡ q * 10 ^ (16383 - n.fraction_digits))
