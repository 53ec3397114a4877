use Rattle.std.proofs.Common.{◌≡◌, ℕ, ℤ, pos, nat_abs, sym, subst, ap, ◌∙◌, w32, to_z, of_z, rules}
use Rattle.std.specs.Prelude.{◌+ℤ◌, ◌<ℤ◌, ◌≤ℤ◌}
use mir.Val.{SFits}
use Rattle.std.proofs.lemmas.Int.{to_z-of_z}
use Rattle.json_exact.specs.DecimalGroups.{group, IsGreatestPlace, IsLeastPlace}
use Rattle.json_exact.specs.Exact.{IsWithinLimits}
use Rattle.jsonb_encode.specs.inner.Writing.{groups_down}
use Rattle.jsonb_encode.proofs.Spans.{Some, some_of, zero_groups, zero_lift, is_none, is_some, some_lift}
use Rattle.jsonb_encode.proofs.number.span_of.Goals as goal

none : (d first : ℤ) (g : ℕ) → SFits w32 first → ((d ≡ pos 0 → ⊥) → IsGreatestPlace (nat_abs d) first) → g ≡ group
    (to_z w32 (of_z w32 first)) (nat_abs d) → g ≡ 0
    → d ≡ pos 0
none d first g f greatest e z = is_none d first greatest (ap (λ (p : ℤ). group p (nat_abs d)) (sym (to_z-of_z w32 first f)) ∙ sym e ∙ z)

some : (d first : ℤ) (g : ℕ) → SFits w32 first → (d ≡ pos 0 → first ≡ pos 0) → g ≡ group (to_z w32 (of_z w32 first)) (nat_abs d) → (g ≡ 0 → ⊥)
    → d ≡ pos 0 → ⊥
some d first g f at_zero e ne = is_some d first at_zero (λ z. ne (e ∙ ap (λ (p : ℤ). group p (nat_abs d)) (to_z-of_z w32 first f) ∙ z))

known : (d first last : ℤ) (g : ℕ) → SFits w32 first → (d ≡ pos 0 → first ≡ pos 0) → ((d ≡ pos 0 → ⊥) → IsGreatestPlace (nat_abs d) first)
    → ((d ≡ pos 0 → ⊥) → IsLeastPlace (nat_abs d) last) → IsWithinLimits d → g ≡ group (to_z w32 (of_z w32 first)) (nat_abs d) → (g ≡ 0 → ⊥)
    → Some d first last
known d first last g f at_zero greatest least h e ne = let s = some d first g f at_zero e ne in some_of d first last h (greatest s) (least s)

pub returns-then-group-eq0-clause-groups : goal.returns-then-group-eq0-clause-groups
returns-then-group-eq0-clause-groups c = λ w worth le.
    let f : SFits w32 c.weight-first.result = search rules in
    zero_groups c.args.decimal.now w (nat_abs c.args.decimal.now) worth le
    (none c.args.decimal.now c.weight-first.result c.group.result f c.weight-first.ensures.greatest c.group.ensures c.if-group-eq0.true)

pub returns-then-group-eq0-clause-lift : goal.returns-then-group-eq0-clause-lift
returns-then-group-eq0-clause-lift c = λ w worth le.
    let f : SFits w32 c.weight-first.result = search rules in
    zero_lift c.args.decimal.now w worth le
    (none c.args.decimal.now c.weight-first.result c.group.result f c.weight-first.ensures.greatest c.group.ensures c.if-group-eq0.true)

pub places_between-requires : goal.places_between-requires
places_between-requires c =
    let f : SFits w32 c.weight-first.result = search rules in
    let g : SFits w32 c.last_place-last.result = search rules in
    let k = known c.args.decimal.now c.weight-first.result c.last_place-last.result c.group.result f c.weight-first.ensures.zero
    c.weight-first.ensures.greatest c.last_place-last.ensures.least c.is_integer-whole.ensures.limits c.group.ensures c.if-group-eq0.false in
    record {
      low = subst (λ (p : ℤ). pos 0 ≤ℤ (p +ℤ pos 4096)) (sym (to_z-of_z w32 c.last_place-last.result g)) k.low;
      order = subst (λ (p : ℤ). p ≤ℤ to_z w32 (of_z w32 c.weight-first.result)) (sym (to_z-of_z w32 c.last_place-last.result g))
          (subst (λ (p : ℤ). c.last_place-last.result ≤ℤ p) (sym (to_z-of_z w32 c.weight-first.result f)) k.order);
      high = subst (λ (p : ℤ). p <ℤ pos 32768) (sym (to_z-of_z w32 c.weight-first.result f)) k.high;
    }

pub returns : goal.returns
returns c =
    let f : SFits w32 c.weight-first.result = search rules in
    let g : SFits w32 c.last_place-last.result = search rules in
    let d = c.args.decimal.now in
    let k = known d c.weight-first.result c.last_place-last.result c.group.result f c.weight-first.ensures.zero
    c.weight-first.ensures.greatest c.last_place-last.ensures.least c.is_integer-whole.ensures.limits c.group.ensures c.if-group-eq0.false in
    let s = some d c.weight-first.result c.group.result f c.weight-first.ensures.zero c.group.ensures c.if-group-eq0.false in
    let a = to_z-of_z w32 c.weight-first.result f in
    let b = to_z-of_z w32 c.last_place-last.result g in
    let count : c.last_place-last.result +ℤ pos c.places_between.result ≡ c.weight-first.result +ℤ pos 1 =
    ap (λ (p : ℤ). p +ℤ pos c.places_between.result) (sym b) ∙ c.places_between.ensures ∙ ap (λ (p : ℤ). p +ℤ pos 1) a in
    record {
      groups = λ w worth le. ap (λ (p : ℤ). groups_down p c.places_between.result (nat_abs d)) a ∙ k.all c.places_between.result w worth le count;
      lift = λ w worth le. ap (λ (p : ℤ). p +ℤ pos 32768) a
          ∙ some_lift d c.weight-first.result c.last_place-last.result w worth le (c.weight-first.ensures.greatest s)
          (c.last_place-last.ensures.least s);
      few = k.few c.places_between.result count;
      low = subst (λ (p : ℤ). pos 0 ≤ℤ (p +ℤ pos 4096)) (sym a) k.first_low;
      high = subst (λ (p : ℤ). p <ℤ pos 32768) (sym a) k.high;
    }
