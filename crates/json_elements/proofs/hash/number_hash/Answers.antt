use Rattle.std.proofs.Common.{◌≡◌, ℕ, ℤ, ap, ◌∙◌, rules, w32}
use mir.Val.{SFits, of_z, to_z}
use Rattle.std.proofs.lemmas.Int.{to_z-of_z}
use Rattle.json_elements.specs.Number.{fed, fed_one, exponent_bytes, mantissa_bytes}
use Rattle.json_elements.proofs.DecimalLaws.{parts_are, fed_by_parts, worth_sign}
use Rattle.json_elements.proofs.hash.number_hash.Goals as goal

pub returns : goal.returns
returns c =
    let w = c.args.number.now in
    let d = c.decimal.result in
    let p = c.parts-parts.ensures in
    let r = c.parts-parts.result in
    let are = parts_are w d r.exponent r.mantissa c.decimal.ensures p.magnitude p.last p.zero in
    let fits : SFits w32 r.exponent = search rules in
    let kept : to_z w32 (of_z w32 r.exponent) ≡ r.exponent = to_z-of_z w32 r.exponent fits in
    c.fed_mantissa.ensures
    ∙ ap (λ (x : ℕ). fed x (mantissa_bytes r.mantissa)) (c.fed_exponent.ensures
    ∙ ap (λ (x : ℤ). fed c.fed_one-signed.result (exponent_bytes x)) kept
    ∙ ap (λ (x : ℕ). fed x (exponent_bytes r.exponent)) (c.fed_one-signed.ensures
    ∙ ap (λ (x : ℕ). fed_one x c.sign_byte.result) c.fed_one.ensures
    ∙ ap (λ (x : ℕ). fed_one (fed_one 14695981039346656037 3) x) c.sign_byte.ensures))
    ∙ fed_by_parts (fed_one 14695981039346656037 3) w r.negative r.mantissa r.exponent (p.negative ∙ worth_sign d w c.decimal.ensures) are
