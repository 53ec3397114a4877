use Rattle.std.proofs.Common.{◌++◌, ◌∷◌, [], List, ℕ, map, take, drop, suc, sym, subst, rules, arith, Global}
use Rattle.std.specs.Prelude.{String as Text, string_bytes}
use Rattle.jsonb_encode.specs.Literals.{IsNumeral, IsRefused, AreNumerals, AreRefused}
use Rattle.jsonb_encode.proofs.ContentsLaws.{split_texts, taken_texts, all_texts, numerals_more, refused_behind, err_told_as}
use Rattle.jsonb_encode.proofs.contents.check_texts.Goals as goal

pub returns-in_err-check_text : goal.returns-in_err-check_text
returns-in_err-check_text c =
    let ts = c.args.texts.now in
    let i = c.loop-index.index in
    let (ws, h) = c.loop-index.invariant in
    let e = c.in_err-check_text.field-0.0 in
    let r = subst (λ (t : Text Global). IsRefused c.args.form (string_bytes t) e) c.index-texts-index.is
    (subst (λ (t : List ℕ). IsRefused c.args.form t e) c.as_str.ensures.value c.in_err-check_text.ensures) in
    err_told_as c.from_residual.result e _ _ (search rules)
    (subst (λ (xs : List (List ℕ)). AreRefused c.args.form xs e)
    (sym (split_texts ts i c.index-texts-index.result (omega (arith, c.loop-index-test.true))))
    (refused_behind c.args.form (take i (map string_bytes ts)) (drop (suc i) (map string_bytes ts)) ws _ e h r))

pub loop-index-preserved : goal.loop-index-preserved
loop-index-preserved c =
    let ts = c.args.texts.now in
    let i = c.loop-index.index in
    let (ws, h) = c.loop-index.invariant in
    let (w, k) = c.in_ok-check_text.ensures in
    let n = subst (λ (t : Text Global). IsNumeral c.args.form (string_bytes t) w) c.index-texts-index.is
    (subst (λ (t : List ℕ). IsNumeral c.args.form t w) c.as_str.ensures.value k) in (
      ws ++ w ∷ [],
      subst (λ (xs : List (List ℕ)). AreNumerals c.args.form xs (ws ++ w ∷ []))
          (taken_texts ts i c.index-texts-index.result (omega (arith, c.loop-index-test.true)))
          (numerals_more c.args.form (take i (map string_bytes ts)) ws _ w h n),
    )

pub returns : goal.returns
returns c =
    let (ws, h) = c.loop-index.invariant in (
      ws,
      subst (λ (xs : List (List ℕ)). AreNumerals c.args.form xs ws)
          (all_texts c.args.texts.now c.loop-index.index (omega (arith, c.loop-index-test.false))) h,
    )
