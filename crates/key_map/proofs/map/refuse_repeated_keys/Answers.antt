use Rattle.std.proofs.Common.{◌≡◌, Bool, true, false, not, cond, Some, map, refl, ap, sym, ◌∙◌, subst, arith, rules}
use Rattle.std.specs.BTreeSet.{contains}
use Rattle.std.specs.Ordering.{nat_cmp}
use Rattle.std.specs.Cmp.Lexicographic.{slice_cmp}
use Rattle.std.specs.Str.{bytes_eq}
use Rattle.std.proofs.lemmas.List.{length-map}
use Rattle.std.proofs.lemmas.Map.Text.{is_eq-slice_cmp}
use borrow.Author.Count.{below_more}
use Rattle.key_map.specs.Pairs.{key_of}
use Rattle.key_map.specs.Repeats.{RepeatsAt, IsFirstRepeat}
use Rattle.key_map.proofs.Repeated.{repeats_early, new_apart, early_more, key_at}
use Rattle.key_map.proofs.map.refuse_repeated_keys.Goals as goal

not_false : (b : Bool) → not b ≡ false → b ≡ true
not_false true e = refl
not_false false e = absurd cc

not_true : (b : Bool) → not b ≡ true → b ≡ false
not_true true e = absurd cc
not_true false e = refl

pub loop-place-init : goal.loop-place-init
loop-place-init g c = (λ q. search rules, λ p lt r. omega arith)

pub returns-in-Ok-false-clause-repeated : goal.returns-in-Ok-false-clause-repeated
returns-in-Ok-false-clause-repeated g c = λ place e.
    let ms = c.args.members.now in
    let at = key_at ms c.loop-place.place c.index-members-place.result (omega arith) ∙ ap (λ z. Some z) (sym c.as_str.ensures.value) in
    let early = sym (c.loop-place.invariant.0 c.as_str.result) ∙ not_false _ (sym c.in-Ok-false.ensures.added ∙ c.in-Ok-false.field-0-test) in
    let same : c.loop-place.place ≡ place = cc in
    subst (λ p. IsFirstRepeat (map key_of ms) p) same
    (repeats_early (map key_of ms) c.loop-place.place c.as_str.result.now at early, c.loop-place.invariant.1)

pub loop-place-preserved : goal.loop-place-preserved
loop-place-preserved g c =
    let ms = c.args.members.now in
    let key = c.as_str.result.now in
    let at = key_at ms c.loop-place.place c.index-members-place.result (omega arith) ∙ ap (λ z. Some z) (sym c.as_str.ensures.value) in
    let apart = sym (c.loop-place.invariant.0 c.as_str.result) ∙ not_true _ (sym c.in-Ok-true.ensures.added ∙ c.in-Ok-true.field-0-test) in (
      λ q. c.in-Ok-true.ensures.updates.0 q
          ∙ ap (λ b. cond b true (contains (λ x y. slice_cmp nat_cmp x.now y.now) c.loop-place.seen q)) (is_eq-slice_cmp key q.now)
          ∙ ap (λ b. cond (bytes_eq key q.now) true b) (c.loop-place.invariant.0 q)
          ∙ sym (early_more (map key_of ms) c.loop-place.place key q.now at),
      below_more (λ p. RepeatsAt (map key_of ms) p → ⊥) c.loop-place.place c.loop-place.invariant.1
          (new_apart (map key_of ms) c.loop-place.place key at apart),
    )

pub returns-clause-distinct : goal.returns-clause-distinct
returns-clause-distinct g c = λ _ place r.
    let within = r.within in
    let len = length-map c.args.members.now key_of in
    c.loop-place.invariant.1 place (omega arith) r
