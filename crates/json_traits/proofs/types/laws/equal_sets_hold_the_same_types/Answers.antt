use Rattle.std.proofs.Common.{◌≡◌, ℕ, eqb, sym, ap, ◌∙◌}
use Rattle.std.proofs.lemmas.Bool.{eqb-true, eq-eqb}
use Rattle.json_traits.specs.Weights.{is_set}
use Rattle.json_traits.proofs.WeightLaws.{one_byte}
use Rattle.json_traits.proofs.types.laws.equal_sets_hold_the_same_types.Goals as goal

pub returns : goal.returns
returns c =
    let e : c.eq.result ≡ eqb c.args.a.bits c.args.b.bits = c.eq.ensures in (
      λ t ty. ap (λ (n : ℕ). is_set n ty) (eqb-true c.args.a.bits c.args.b.bits (sym e ∙ t)),
      λ h. e ∙ eq-eqb c.args.a.bits c.args.b.bits (one_byte c.args.a.bits c.args.b.bits c.args.a.seven c.args.b.seven h),
    )
