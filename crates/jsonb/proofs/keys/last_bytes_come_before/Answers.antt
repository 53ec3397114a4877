use Rattle.std.proofs.Common.{refl, arith}
use Rattle.std.specs.Ordering.{nat_cmp, is_lt}
use Rattle.std.proofs.lemmas.Cmp.{same_from_slice_cmp_tested}
use Rattle.std.proofs.lemmas.Bool.Decides.{nat_tests}
use Rattle.json_model.specs.Keys.{bytes_before}
use Rattle.jsonb.proofs.keys.last_bytes_come_before.Goals as goal

pub returns : goal.returns
returns c =
    same_from_slice_cmp_tested nat_cmp is_lt bytes_before refl (λ _ _. refl) (λ _ _. refl) (λ x y xs ys o h. grind (arith, nat_tests)) c.args.a.now
    c.args.b.now c.lt.result c.lt.ensures
