-- The number of a whole number of `serde_json`.
use Rattle.std.proofs.Common.{◌≡◌, ℕ, ◌-◌, ◌*◌, ◌^◌, Some, None, sym, ap, ◌∙◌, ℤ, pos, nat_abs, arith}
use Rattle.std.specs.Prelude.{◌*ℤ◌, int_lt}
use Rattle.serde_json.specs.Data as serde
use Rattle.serde_json.specs.Find.{as_u64, as_i64}
use Rattle.json_model.specs.Decimal.{Decimal as Written, signed}
use Rattle.json_model.specs.Tree.{scalar, number}
use Rattle.json_exact.specs.Exact.{IsWorth, parts}
use Rattle.json_exact.specs.Serde.{number_tree, whole}
use Rattle.json_exact.specs.inner.NumberInverseLaws.{sign_abs}
use Rattle.json_exact.proofs.SignLaws.{times}
use Rattle.json_exact.proofs.WorthLaws.{one_record, exact_as_written}

abbrev whole_record : ℤ → Written
whole_record z = record { digits = z; places = 0 }

worth_whole : (z d : ℤ) → d ≡ z *ℤ pos parts → IsWorth d (whole_record z)
worth_whole z d e = times d 1 ∙ ap (λ (n : ℕ). signed (int_lt d (pos 0)) n) (once (nat_abs d)) ∙ sym (sign_abs d) ∙ e
  where
    once : (n : ℕ) → n * 1 ≡ n
    once n = omega arith

-- no fraction digit is needed to write a whole number
pub whole_exact : (z d : ℤ) → d ≡ z *ℤ pos parts → (q : ℕ) × (nat_abs d ≡ q * 10 ^ (16383 - 0))
whole_exact z d e = exact_as_written d (whole_record z) (worth_whole z d e) (omega arith)

whole_written : (z d : ℤ) (w : Written) → d ≡ z *ℤ pos parts → IsWorth d w → w.places ≡ 0 → w ≡ whole_record z
whole_written z d w e f g = one_record d w (whole_record z) f (worth_whole z d e) g

unsigned_tree : (x : serde.Num) (n : ℕ) → as_u64 x ≡ Some n → number_tree x ≡ Some (whole (pos n))
unsigned_tree (serde.unsigned m) n e = let f : m ≡ n = cc in ap (λ (k : ℕ). Some (whole (pos k))) f
unsigned_tree (serde.negative z) n e = absurd cc
unsigned_tree (serde.float x) n e = absurd cc

signed_tree : (x : serde.Num) (z : ℤ) → as_u64 x ≡ None → as_i64 x ≡ Some z → number_tree x ≡ Some (whole z)
signed_tree (serde.unsigned m) z n e = absurd cc
signed_tree (serde.negative y) z n e = let f : y ≡ z = cc in ap (λ (k : ℤ). Some (whole k)) f
signed_tree (serde.float x) z n e = absurd cc

-- a natural number of 64 bits
pub natural_is : (x : serde.Num) (n : ℕ) (d : ℤ) (w : Written) → as_u64 x ≡ Some n → d ≡ pos n *ℤ pos parts → IsWorth d w → w.places ≡ 0
    → number_tree x ≡ Some (scalar (number w))
natural_is x n d w a e f g = unsigned_tree x n a ∙ ap (λ (v : Written). Some (scalar (number v))) (sym (whole_written (pos n) d w e f g))

-- a number below 0
pub negative_is : (x : serde.Num) (z d : ℤ) (w : Written) → as_u64 x ≡ None → as_i64 x ≡ Some z → d ≡ z *ℤ pos parts → IsWorth d w → w.places ≡ 0
    → number_tree x ≡ Some (scalar (number w))
negative_is x z d w a b e f g = signed_tree x z a b ∙ ap (λ (v : Written). Some (scalar (number v))) (sym (whole_written z d w e f g))
