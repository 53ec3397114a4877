use Rattle.std.proofs.Common.{ℕ, List, ap, sym, ◌∙◌, ◌++◌, ◌∷◌, [], map, string_bytes, length, length-append, take, take_all}
use Rattle.json_model.specs.Parts.{pairs_of}
use Rattle.json_model.specs.Tree.{Tree}
use Rattle.json_traits.proofs.GivesLaws.{left_item, left_end}
use Rattle.judge_tree.proofs.Growing.{map_put}
use Rattle.judge_tree.proofs.compiling.keys.Goals as goal

pub loop-member-preserved : goal.loop-member-preserved
loop-member-preserved g c =
    let ps = pairs_of (g.F.Object.HasTree.tree c.args.object.now) in
    let p = g.F.NodeFamily.pair c.in-Some.member in
    let k = length c.loop-member.yielded in
    let now = map string_bytes c.loop-member.names.items in
    let r = left_item {j = c.next.new.self} ps k c.loop-member.invariant.left c.in-Some.ensures.steps in
    record {
      can = c.in-Some.ensures.goes.keeps;
      ends = (c.in-Some.ensures.goes.on c.loop-member.invariant.ends).1;
      left = simp length-append r.1;
      copied = simp length-append (c.in-Ok.ensures
          ∙ ap (λ n. now ++ n ∷ []) (c.as_str.ensures ∙ c.key-key.ensures)
          ∙ ap (λ ns. ns ++ p.0 ∷ []) c.loop-member.invariant.copied
          ∙ sym (ap (map (λ (p : List ℕ × Tree). p.0)) r.0.front ∙ map_put (λ (p : List ℕ × Tree). p.0) (take k ps) p));
    }

pub returns : goal.returns
returns g c =
    let ps = pairs_of (g.F.Object.HasTree.tree c.args.object.now) in
    let k = length c.loop-member.yielded in
    c.loop-member.invariant.copied
    ∙ ap (map (λ (p : List ℕ × Tree). p.0)) (take_all k ps (left_end {u = c.next.new.self} ps k c.loop-member.invariant.left c.in-None.ensures.steps))
