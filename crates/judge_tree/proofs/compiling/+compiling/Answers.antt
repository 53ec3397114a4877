use Rattle.std.proofs.Common.{◌∷◌, [], ◌++◌, ◌+◌, List, ℕ, drop, map, length, length-append, sym, subst, ap, arith, ◌∙◌, refl}
use Rattle.std.specs.Prelude.{◌↔◌, IfSome, MatchResult}
use Rattle.json_model.specs.Nest.{nest}
use Rattle.json_model.specs.Parts.{elements_from, elements_of, lookup, members_from, pairs_of}
use Rattle.json_model.specs.Tree.{Tree}
use Rattle.json_traits.proofs.GivesLaws.{left_item, left_end}
use Rattle.json_traits.proofs.ShapeLaws.{array_is_made, element_nests, object_nests, pair_nests}
use Rattle.judge_tree.specs.Unique.{NeverAsks, NoElementAsks, NoMemberAsks, NoValueAsks, NoneInListAsks}
use Rattle.judge_tree.specs.Verdict.{IsValidUnder, MeetsAll, MeetsAllOf, MeetsAny, MeetsAnyOf, MeetsAtKeys, MeetsEach, property_names}
use Rattle.judge_tree.specs.Walks.{Outcome, went, Walks, WalksEach, WalksElements, WalksList, WalksProperties, WalksValues}
use Rattle.judge_tree.specs.inner.Asked.{Asked, IsFrugal, Means, asked, all_of, any_of, at_key}
use Rattle.judge_tree.specs.inner.Built.{IsBuilt, MeetsMember, MemberNeverAsks, Stops, WalksMember}
use Rattle.judge_tree.proofs.Growing.{all_goes_on, any_goes_on, frugal_goes_on, frugal_any, all_ends, any_ends, if_some}
use Rattle.judge_tree.proofs.WalkSteps.{step_went, step_stopped, nothing_left, object_is_built, properties_are_built, walks_of_properties, walks_of_list, array_parts_nest, object_parts_nest}
use Rattle.judge_tree.proofs.compiling.+compiling.Goals as goal

pub compile_members-compile_member-requires : goal.compile_members-compile_member-requires
compile_members-compile_member-requires g t c =
    let ps = pairs_of (g.F.Object.HasTree.tree c.args.object.now) in
    let k = length c.loop-member.yielded in
    let r = left_item {j = c.next.new.self} ps k c.loop-member.invariant.left c.in-Some.ensures.steps in
    let inside = pair_nests ps k (g.F.NodeFamily.pair c.in-Some.member) r.0.here in
    λ κs h. (omega (arith, inside, c.decreases), h)

pub compile_members-loop-member-preserved : goal.compile_members-loop-member-preserved
compile_members-loop-member-preserved g t c =
    let ps = pairs_of (g.F.Object.HasTree.tree c.args.object.now) in
    let ns = property_names ps in
    let p = g.F.NodeFamily.pair c.in-Some.member in
    let k = length c.loop-member.yielded in
    let n = c.args.number in
    let i = c.loop-member.next in
    let j = c.in-Ok.compiled.next in
    let now = map asked c.loop-member.formulas.items in
    let more = map asked c.put.new.formulas.items in
    let a = asked c.in-Ok.compiled.formula in
    let r = left_item {j = c.next.new.self} ps k c.loop-member.invariant.left c.in-Some.ensures.steps in
    let after = length-append c.loop-member.yielded (c.in-Some.member ∷ []) in
    record {
      can = c.in-Some.ensures.goes.keeps;
      ends = (c.in-Some.ensures.goes.on c.loop-member.invariant.ends).1;
      left = simp length-append r.1;
      place = c.in-Some-checked_add.ensures.1 ∙ ap (λ m. m + 1) c.loop-member.invariant.place ∙ sym after;
      walk = λ o h. c.loop-member.invariant.walk o
          (step_went (λ (xs : List (List ℕ × Tree)) (i : ℕ) (o : Outcome). WalksEach (members_from xs) n k i o) ps k i p r.0.back
          (WalksMember n k i p) (λ i o. WalksEach (members_from (drop (k + 1) ps)) n (k + 1) i o) (λ w o s m. (w, s, m)) j
          (subst (λ (m : ℕ). WalksMember n m i p (went j)) c.loop-member.invariant.place c.in-Ok.ensures.walk) o
          (subst (λ (m : ℕ). WalksEach (members_from (drop m ps)) n m j o) after h));
      asks = λ d. all_goes_on ps k now p r.0.back a more c.in-Ok-put.ensures _ after
          (λ (xs : List (List ℕ × Tree)). MeetsEach ns (members_from xs) d) (λ q. MeetsMember ns q d) d (MeetsEach ns (members_from ps) d)
          (c.in-Ok.ensures.asks d) (λ h. ((h.0, tt), h.1), λ h. (h.0.0, h.1)) (c.loop-member.invariant.asks d);
      memory = frugal_goes_on ps k now p r.0.back a more c.in-Ok-put.ensures _ after
          (λ (xs : List (List ℕ × Tree)). NoMemberAsks (members_from xs)) MemberNeverAsks (NoMemberAsks (members_from ps))
          c.in-Ok.ensures.memory (λ h. ((h.0, tt), h.1)) c.loop-member.invariant.memory;
    }

pub compile_members-returns : goal.compile_members-returns
compile_members-returns g t c =
    let ps = pairs_of (g.F.Object.HasTree.tree c.args.object.now) in
    let ns = property_names ps in
    let k = length c.loop-member.yielded in
    let i = c.loop-member.next in
    let le = left_end {u = c.next.new.self} ps k c.loop-member.invariant.left c.in-None.ensures.steps in
    record {
      asks = λ d. subst (λ (a : Asked). Means a d ↔ MeetsEach ns (members_from ps) d) (sym c.of_all.ensures)
          (all_ends ps k (map asked c.loop-member.formulas.items) (λ (xs : List (List ℕ × Tree)). MeetsEach ns (members_from xs) d) d
          (MeetsEach ns (members_from ps) d) le tt (c.loop-member.invariant.asks d));
      memory = λ h. subst IsFrugal (sym c.of_all.ensures) (c.loop-member.invariant.memory h).0;
      walk = c.loop-member.invariant.walk (went i)
          (nothing_left (λ (xs : List (List ℕ × Tree)). WalksEach (members_from xs) c.args.number k i (went i)) ps k le refl);
    }

pub compile_members-returns-in-Err : goal.compile_members-returns-in-Err
compile_members-returns-in-Err g t c =
    let ps = pairs_of (g.F.Object.HasTree.tree c.args.object.now) in
    let p = g.F.NodeFamily.pair c.in-Some.member in
    let k = length c.loop-member.yielded in
    let n = c.args.number in
    let i = c.loop-member.next in
    let r = left_item {j = c.next.new.self} ps k c.loop-member.invariant.left c.in-Some.ensures.steps in
    step_stopped (λ (xs : List (List ℕ × Tree)) (i : ℕ) (o : Outcome). WalksEach (members_from xs) n k i o) ps k i p r.0.back
    (WalksMember n k i p) (λ i o. WalksEach (members_from (drop (k + 1) ps)) n (k + 1) i o) (λ w o s m. (w, s, m))
    c.in-Err.error (λ o. WalksEach (members_from ps) n 0 c.args.first o) c.loop-member.invariant.walk
    (subst (λ (m : ℕ). Stops (WalksMember n m i p) c.in-Err.error) c.loop-member.invariant.place c.in-Err.ensures)

pub compile_properties-compile_schema-requires : goal.compile_properties-compile_schema-requires
compile_properties-compile_schema-requires g t c =
    let v = g.F.Node.HasTree.tree c.args.value.now in
    let k = length c.loop-member.yielded in
    let r = left_item {j = c.next.new.self} (pairs_of v) k c.loop-member.invariant.left c.in-Some-member.ensures.steps in
    let inside = pair_nests (pairs_of v) k (g.F.NodeFamily.pair c.in-Some-member.member) r.0.here in
    let whole = object_parts_nest (g.F.Object.HasTree.tree c.in-Some.object) v c.in-Some.ensures in
    let is = ap nest c.value.ensures in
    λ κs h. (omega (arith, inside, whole, is, c.decreases), h)

pub compile_properties-loop-member-preserved : goal.compile_properties-loop-member-preserved
compile_properties-loop-member-preserved g t c =
    let ps = pairs_of (g.F.Node.HasTree.tree c.args.value.now) in
    let p = g.F.NodeFamily.pair c.in-Some-member.member in
    let k = length c.loop-member.yielded in
    let i = c.loop-member.next in
    let j = c.in-Ok.compiled.next in
    let now = map asked c.loop-member.formulas.items in
    let more = map asked c.put_member.new.formulas.items in
    let f = asked c.in-Ok.compiled.formula in
    let r = left_item {j = c.next.new.self} ps k c.loop-member.invariant.left c.in-Some-member.ensures.steps in
    let is = c.in-Ok-put_member.ensures ∙ ap (λ m. now ++ at_key m f ∷ []) (c.as_str.ensures ∙ c.key-key.ensures) in
    let after = length-append c.loop-member.yielded (c.in-Some-member.member ∷ []) in
    record {
      can = c.in-Some-member.ensures.goes.keeps;
      ends = (c.in-Some-member.ensures.goes.on c.loop-member.invariant.ends).1;
      left = simp length-append r.1;
      walk = λ o h. c.loop-member.invariant.walk o
          (step_went (λ (xs : List (List ℕ × Tree)) (i : ℕ) (o : Outcome). WalksValues (members_from xs) i o) ps k i p r.0.back
          (Walks p.1 i) (λ i o. WalksValues (members_from (drop (k + 1) ps)) i o) (λ w o s m. (w, s, m)) j
          (subst (λ (u : Tree). Walks u i (went j)) c.value.ensures c.in-Ok.ensures.walk) o
          (subst (λ (m : ℕ). WalksValues (members_from (drop m ps)) j o) after h));
      asks = λ d. all_goes_on ps k now p r.0.back (at_key p.0 f) more is _ after
          (λ (xs : List (List ℕ × Tree)). MeetsAtKeys (members_from xs) d)
          (λ q. IfSome (lookup q.0 (pairs_of d)) (λ x. IsValidUnder q.1 x)) d (MeetsAtKeys (members_from ps) d)
          (if_some (lookup p.0 (pairs_of d)) (λ x. Means f x) (λ x. IsValidUnder p.1 x)
          (λ x. subst (λ (u : Tree). Means f x ↔ IsValidUnder u x) c.value.ensures (c.in-Ok.ensures.asks x)))
          (λ h. h, λ h. h) (c.loop-member.invariant.asks d);
      memory = frugal_goes_on ps k now p r.0.back (at_key p.0 f) more is _ after
          (λ (xs : List (List ℕ × Tree)). NoValueAsks (members_from xs)) (λ q. NeverAsks q.1) (NoValueAsks (members_from ps))
          (λ h. c.in-Ok.ensures.memory (subst NeverAsks (sym c.value.ensures) h)) (λ h. h) c.loop-member.invariant.memory;
    }

pub compile_properties-returns : goal.compile_properties-returns
compile_properties-returns g t c =
    let v = g.F.Node.HasTree.tree c.args.value.now in
    let o = g.F.Object.HasTree.tree c.in-Some.object in
    let ps = pairs_of v in
    let k = length c.loop-member.yielded in
    let i = c.loop-member.next in
    let le = left_end {u = c.next.new.self} ps k c.loop-member.invariant.left c.in-None.ensures.steps in
    properties_are_built o v c.args.number c.args.place c.args.first _ c.in-Some.ensures (record {
      asks = λ d. subst (λ (a : Asked). Means a d ↔ MeetsAtKeys (members_from ps) d) (sym c.of_all.ensures)
          (all_ends ps k (map asked c.loop-member.formulas.items) (λ (xs : List (List ℕ × Tree)). MeetsAtKeys (members_from xs) d) d
          (MeetsAtKeys (members_from ps) d) le tt (c.loop-member.invariant.asks d));
      memory = λ h. subst IsFrugal (sym c.of_all.ensures) (c.loop-member.invariant.memory h).0;
      walk = c.loop-member.invariant.walk (went i)
          (nothing_left (λ (xs : List (List ℕ × Tree)). WalksValues (members_from xs) i (went i)) ps k le refl);
    })

pub compile_properties-returns-in-Err : goal.compile_properties-returns-in-Err
compile_properties-returns-in-Err g t c =
    let v = g.F.Node.HasTree.tree c.args.value.now in
    let object = g.F.Object.HasTree.tree c.in-Some.object in
    let ps = pairs_of v in
    let p = g.F.NodeFamily.pair c.in-Some-member.member in
    let k = length c.loop-member.yielded in
    let i = c.loop-member.next in
    let r = left_item {j = c.next.new.self} ps k c.loop-member.invariant.left c.in-Some-member.ensures.steps in
    step_stopped (λ (xs : List (List ℕ × Tree)) (i : ℕ) (o : Outcome). WalksValues (members_from xs) i o) ps k i p r.0.back
    (Walks p.1 i) (λ i o. WalksValues (members_from (drop (k + 1) ps)) i o) (λ w o s m. (w, s, m))
    c.in-Err.error (λ o. WalksProperties v c.args.number c.args.place c.args.first o)
    (λ o h. walks_of_properties object v c.args.number c.args.place c.args.first o c.in-Some.ensures (c.loop-member.invariant.walk o h))
    (subst (λ (u : Tree). Stops (Walks u i) c.in-Err.error) c.value.ensures c.in-Err.ensures)

pub compile_list-compile_schema-requires : goal.compile_list-compile_schema-requires
compile_list-compile_schema-requires g t c =
    let v = g.F.Node.HasTree.tree c.args.value.now in
    let k = length c.loop-element.yielded in
    let r = left_item {j = c.next.new.self} (elements_of v) k c.loop-element.invariant.left c.in-Some-element.ensures.steps in
    let inside = element_nests (elements_of v) k (g.F.Node.HasTree.tree c.in-Some-element.element) r.0.here in
    let whole = array_parts_nest (g.F.Array.HasTree.tree c.in-Some.array) v c.in-Some.ensures in
    λ κs h. (omega (arith, inside, whole, c.decreases), h)

pub compile_list-loop-element-preserved : goal.compile_list-loop-element-preserved
compile_list-loop-element-preserved g t c =
    let ts = elements_of (g.F.Node.HasTree.tree c.args.value.now) in
    let x = g.F.Node.HasTree.tree c.in-Some-element.element in
    let k = length c.loop-element.yielded in
    let i = c.loop-element.next in
    let j = c.in-Ok.compiled.next in
    let now = map asked c.loop-element.formulas.items in
    let more = map asked c.put.new.formulas.items in
    let a = asked c.in-Ok.compiled.formula in
    let r = left_item {j = c.next.new.self} ts k c.loop-element.invariant.left c.in-Some-element.ensures.steps in
    let after = length-append c.loop-element.yielded (c.in-Some-element.element ∷ []) in
    record {
      can = c.in-Some-element.ensures.goes.keeps;
      ends = (c.in-Some-element.ensures.goes.on c.loop-element.invariant.ends).1;
      left = simp length-append r.1;
      some = c.loop-element.invariant.some;
      walk = λ o h. c.loop-element.invariant.walk o
          (step_went (λ (xs : List Tree) (i : ℕ) (o : Outcome). WalksElements (elements_from xs) i o) ts k i x r.0.back
          (Walks x i) (λ i o. WalksElements (elements_from (drop (k + 1) ts)) i o) (λ w o s m. (w, s, m)) j c.in-Ok.ensures.walk o
          (subst (λ (m : ℕ). WalksElements (elements_from (drop m ts)) j o) after h));
      all = λ d. all_goes_on ts k now x r.0.back a more c.in-Ok-put.ensures _ after
          (λ (xs : List Tree). MeetsAllOf (elements_from xs) d) (λ u. IsValidUnder u d) d (MeetsAllOf (elements_from ts) d)
          (c.in-Ok.ensures.asks d) (λ h. h, λ h. h) (c.loop-element.invariant.all d);
      any = λ d. any_goes_on ts k now x r.0.back a more c.in-Ok-put.ensures _ after
          (λ (xs : List Tree). MeetsAnyOf (elements_from xs) d) (λ u. IsValidUnder u d) d (MeetsAnyOf (elements_from ts) d)
          (c.in-Ok.ensures.asks d) (λ h. h, λ h. h) (c.loop-element.invariant.any d);
      memory = frugal_goes_on ts k now x r.0.back a more c.in-Ok-put.ensures _ after
          (λ (xs : List Tree). NoElementAsks (elements_from xs)) NeverAsks (NoElementAsks (elements_from ts))
          c.in-Ok.ensures.memory (λ h. h) c.loop-element.invariant.memory;
    }

pub compile_list-returns : goal.compile_list-returns
compile_list-returns g t c =
    let v = g.F.Node.HasTree.tree c.args.value.now in
    let array = g.F.Array.HasTree.tree c.in-Some.array in
    let ts = elements_of v in
    let k = length c.loop-element.yielded in
    let i = c.loop-element.next in
    let now = map asked c.loop-element.formulas.items in
    let le = left_end {u = c.next.new.self} ts k c.loop-element.invariant.left c.in-None.ensures.steps in
    let shape = array_is_made array v c.in-Some.ensures in
    record {
      all = λ d. subst (λ (u : Tree). Means (all_of now) d ↔ MeetsAll u d) (sym shape)
          (all_ends ts k now (λ (xs : List Tree). MeetsAllOf (elements_from xs) d) d (MeetsAllOf (elements_from ts) d) le tt
          (c.loop-element.invariant.all d));
      any = λ d. subst (λ (u : Tree). Means (any_of now) d ↔ MeetsAny u d) (sym shape)
          (any_ends ts k now (λ (xs : List Tree). MeetsAnyOf (elements_from xs) d) d (MeetsAnyOf (elements_from ts) d) le (λ z. z)
          (c.loop-element.invariant.any d));
      all_memory = λ h. (c.loop-element.invariant.memory (subst NoneInListAsks shape h)).0;
      any_memory = λ h. frugal_any now (c.loop-element.invariant.memory (subst NoneInListAsks shape h)).0;
      walk = walks_of_list array v c.args.number c.args.place c.args.first (went i) c.in-Some.ensures c.loop-element.invariant.some
          (c.loop-element.invariant.walk (went i) (nothing_left (λ (xs : List Tree). WalksElements (elements_from xs) i (went i)) ts k le refl));
    }

pub compile_list-returns-in-Err : goal.compile_list-returns-in-Err
compile_list-returns-in-Err g t c =
    let v = g.F.Node.HasTree.tree c.args.value.now in
    let array = g.F.Array.HasTree.tree c.in-Some.array in
    let ts = elements_of v in
    let x = g.F.Node.HasTree.tree c.in-Some-element.element in
    let k = length c.loop-element.yielded in
    let i = c.loop-element.next in
    let r = left_item {j = c.next.new.self} ts k c.loop-element.invariant.left c.in-Some-element.ensures.steps in
    step_stopped (λ (xs : List Tree) (i : ℕ) (o : Outcome). WalksElements (elements_from xs) i o) ts k i x r.0.back
    (Walks x i) (λ i o. WalksElements (elements_from (drop (k + 1) ts)) i o) (λ w o s m. (w, s, m))
    c.in-Err.error (λ o. WalksList v c.args.number c.args.place c.args.first o)
    (λ o h. walks_of_list array v c.args.number c.args.place c.args.first o c.in-Some.ensures c.loop-element.invariant.some
    (c.loop-element.invariant.walk o h)) c.in-Err.ensures

pub compile_schema-compile_members-requires : goal.compile_schema-compile_members-requires
compile_schema-compile_members-requires g t c =
    let whole = object_nests (g.F.Object.HasTree.tree c.in-Some-as_object.object) (g.F.Node.HasTree.tree c.args.node.now)
    c.in-Some-as_object.ensures in
    λ κs h. (omega (arith, whole, c.decreases), h)

pub compile_schema-returns-in-Some-as_object : goal.compile_schema-returns-in-Some-as_object
compile_schema-returns-in-Some-as_object g t c =
    let o = g.F.Object.HasTree.tree c.in-Some-as_object.object in
    let ms = members_from (pairs_of o) in
    object_is_built o (g.F.Node.HasTree.tree c.args.node.now) c.args.number c.compile_members.result c.in-Some-as_object.ensures
    (subst (λ (n : ℕ). MatchResult c.compile_members.result
    (IsBuilt (MeetsEach (property_names (pairs_of o)) ms) (NoMemberAsks ms) (WalksEach ms c.args.number 0 n))
    (Stops (WalksEach ms c.args.number 0 n)))
    c.in-Some.ensures.1 c.compile_members.ensures)

pub compile_members-loop-member-init : goal.compile_members-loop-member-init
compile_members-loop-member-init g t c =
    let gives = c.into_iter-member-iterator.ensures.into_iter_gives in
    record {
      can = rw gives c.members-member-items.ensures.can;
      ends = rw gives c.members-member-items.ensures.ends;
      left = rw gives c.members-member-items.ensures.gives;
      place = refl;
      walk = λ o h. h;
      asks = λ d. rw c.new-formulas.ensures.items (λ h. h.1, λ h. (refl, h));
      memory = λ h. rw c.new-formulas.ensures.items (tt, h);
    }
