use Rattle.std.proofs.Common.{◌≡◌, Err, map, refl, ap, subst}
use Rattle.std.proofs.lemmas.List.Sorted.{IsPermutation-map}
use Rattle.key_map.specs.declared.map_error.MapError.TheVariants.{RepeatedKey}
use Rattle.key_map.specs.Pairs.{key_of, pair_of}
use Rattle.key_map.specs.Repeats.{AreDistinct, IsFirstRepeat}
use Rattle.key_map.proofs.Counted.{rises_moved, lookups_moved}
use Rattle.key_map.proofs.map.KeyMap.from_members.Goals as goal

pub returns-in-Err-clause-repeated : goal.returns-in-Err-clause-repeated
returns-in-Err-clause-repeated g c = λ place e.
    let same : c.in-Err.error ≡ RepeatedKey place = cc in
    subst (λ ms. IsFirstRepeat (map key_of ms) place) c.deref.ensures.value (c.in-Err.ensures.repeated place (ap (λ x. Err x) same))

pub invariant_of-result : goal.invariant_of-result
invariant_of-result g c = rises_moved c.args.members.items c.sort_by_key.new.members.items c.in-Ok.ensures.permutation
    (subst (λ ms. AreDistinct (map key_of ms)) c.deref.ensures.value (c.in_default.ensures.distinct refl)) c.in-Ok.ensures.sorted

pub returns-in-Ok-clause-members : goal.returns-in-Ok-clause-members
returns-in-Ok-clause-members g c = IsPermutation-map pair_of c.args.members.items c.sort_by_key.new.members.items c.in-Ok.ensures.permutation

pub returns-in-Ok-clause-same : goal.returns-in-Ok-clause-same
returns-in-Ok-clause-same g c =
    let rise = rises_moved c.args.members.items c.sort_by_key.new.members.items c.in-Ok.ensures.permutation
    (subst (λ ms. AreDistinct (map key_of ms)) c.deref.ensures.value (c.in_default.ensures.distinct refl)) c.in-Ok.ensures.sorted in
    lookups_moved c.args.members.items c.sort_by_key.new.members.items c.in-Ok.ensures.permutation rise

pub returns-in-Ok-clause-distinct : goal.returns-in-Ok-clause-distinct
returns-in-Ok-clause-distinct g c = λ _. subst (λ ms. AreDistinct (map key_of ms)) c.deref.ensures.value (c.in_default.ensures.distinct refl)
