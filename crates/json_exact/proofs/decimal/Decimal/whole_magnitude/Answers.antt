use Rattle.std.proofs.Common.{ℕ, ◌/◌, ◌^◌, ◌≡◌, ◌∙◌, ap, nat_abs, arith}
use Rattle.json_exact.proofs.MagnitudeLaws.{none_above, one_more, few_digits, wide, whole_multiple, told}
use Rattle.json_exact.proofs.decimal.Decimal.whole_magnitude.Goals as goal

pub returns-then-not-is_integer : goal.returns-then-not-is_integer
returns-then-not-is_integer c =
    λ n lt. (
      λ e. absurd cc,
      λ e. absurd (let t = c.is_integer.ensures.whole.1 (whole_multiple c.args.self.now n e) in let f = c.if-not-is_integer.true in cc),
    )

pub returns-then-high : goal.returns-then-high
returns-then-high c = λ n lt. (
  λ e. absurd cc,
  λ e. absurd
      (wide (nat_abs c.args.self.now) n (let h = c.if-high.true in let m = c.max-high.ensures in let d = c.digit_count.ensures in omega arith) lt e),
)

pub loop-place-init : goal.loop-place-init
loop-place-init c = record {
  within = (let m = c.max-high.ensures in omega arith);
  so_far = none_above (nat_abs c.args.self.now) c.max-high.result (let m = c.max-high.ensures in let d = c.digit_count.ensures in omega arith);
}

pub overflow_mul-magnitude : goal.overflow_mul-magnitude
overflow_mul-magnitude c =
    let f = few_digits (nat_abs c.args.self.now) c.loop-place.place
    (let h = c.if-high.false in let m = c.max-high.ensures in let d = c.digit_count.ensures in omega arith) c.loop-place.invariant.within in
    let s = c.loop-place.invariant.so_far in
    omega arith

pub overflow_add-magnitude : goal.overflow_add-magnitude
overflow_add-magnitude c =
    let f = few_digits (nat_abs c.args.self.now) c.loop-place.place
    (let h = c.if-high.false in let m = c.max-high.ensures in let d = c.digit_count.ensures in omega arith) c.loop-place.invariant.within in
    let s = c.loop-place.invariant.so_far in
    let d = c.digit_at.ensures in
    omega arith

pub loop-place-preserved : goal.loop-place-preserved
loop-place-preserved c = record {
  within = (let t = c.loop-place-test.true in omega arith);
  so_far = one_more
      (nat_abs c.args.self.now) c.loop-place.place c.loop-place.magnitude c.digit_at.result c.loop-place-test.true c.loop-place.invariant.so_far
      c.digit_at.ensures;
}

pub returns : goal.returns
returns c =
    let last : c.loop-place.place ≡ 16383 = (let t = c.loop-place-test.false in let w = c.loop-place.invariant.within in omega arith) in
    told c.args.self.now c.loop-place.magnitude c.try_from.result c.ok.result (c.is_integer.ensures.whole.0 c.if-not-is_integer.false)
    (c.loop-place.invariant.so_far ∙ ap (λ (k : ℕ). nat_abs c.args.self.now / 10 ^ k) last) c.try_from.ensures c.ok.ensures.value
