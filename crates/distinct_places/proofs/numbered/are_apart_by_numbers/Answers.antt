use Rattle.std.proofs.Common.{eqb, get_or, sym, subst, arith}
use Rattle.std.specs.HashMap.{get}
use Rattle.std.specs.Result.{is_ok}
use Rattle.std.proofs.lemmas.Grind.{common_steps}
use Rattle.distinct_places.specs.inner.Newest.{IsNewest}
use Rattle.distinct_places.proofs.NewestLaws.{newest_more, linked_more, apart_more}
use Rattle.distinct_places.proofs.numbered.are_apart_by_numbers.Goals as goal

pub loop-place-preserved : goal.loop-place-preserved
loop-place-preserved g c =
    let k = c.loop-place.place in
    let hs = c.args.numbers.now in
    let inv = c.loop-place.invariant in
    let number = get_or hs k 0 in
    record {
      len = grind (arith, common_steps);
      older = linked_more hs c.loop-place.older.items c.in-Ok.before k inv.len inv.older
          (subst (λ o. IsNewest hs k number o) (sym c.in-Ok.ensures.old) (inv.newest number))
          (is_ok c.push.result) c.push.new.self.items c.if-is_err.ensures.negation c.push.ensures.items;
      newest = λ h. newest_more hs k h (get eqb c.loop-place.newest h) (get eqb c.insert.new.self h) (c.in-Ok.ensures.updates.0 h) (inv.newest h);
      apart = apart_more (g.P.Places.same c.args.places.now) k inv.apart (c.in_ok-is_apart.ensures.0 (let n = c.if-not-branch.false in cc));
    }
