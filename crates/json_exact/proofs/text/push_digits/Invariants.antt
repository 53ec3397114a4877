use Rattle.std.proofs.Common.{◌++◌, ◌-◌, ◌/◌, ◌^◌, ◌≡◌, ◌≤◌, nat_abs, string_bytes}
use Rattle.json_exact.specs.Text.{digits_text}
use Rattle.json_exact.proofs.text.push_digits.Given as goal

-- what is written and the digits that are left make all of them
abbrev pub invariant-loop-place : goal.invariant-loop-place
invariant-loop-place l = record {
  within : l.low ≤ l.place;
  so_far : string_bytes l.output ++ digits_text (l.place - l.low) (nat_abs l.decimal / 10 ^ l.low)
      ≡ string_bytes l.initial.output ++ digits_text (l.high - l.low) (nat_abs l.decimal / 10 ^ l.low);
}
