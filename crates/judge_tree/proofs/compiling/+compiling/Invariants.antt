use Rattle.std.proofs.Common.{◌≡◌, ◌<◌, ◌+◌, ◌*◌, ◌⊎◌, map, drop, length}
use Rattle.std.specs.Prelude.{◌↔◌}
use Rattle.json_model.specs.Nest.{nest, nest_members}
use Rattle.json_model.specs.Parts.{elements_from, elements_of, members_from, pairs_of}
use Rattle.json_model.specs.Tree.{Tree}
use Rattle.json_traits.specs.Gives.{Gives}
use Rattle.judge_tree.specs.Unique.{NoElementAsks, NoMemberAsks, NoValueAsks}
use Rattle.judge_tree.specs.Verdict.{MeetsAllOf, MeetsAnyOf, MeetsAtKeys, MeetsEach, property_names}
use Rattle.judge_tree.specs.Walks.{Outcome, WalksEach, WalksElements, WalksValues}
use Rattle.judge_tree.specs.inner.Asked.{IsFrugal, Means, all_of, any_of, asked}
use Rattle.judge_tree.proofs.compiling.+compiling.Given as goal

abbrev pub decreases-compile_schema : goal.decreases-compile_schema
decreases-compile_schema g l = 4 * nest (g.F.Node.HasTree.tree l.node.now) + 3

abbrev pub decreases-compile_members : goal.decreases-compile_members
decreases-compile_members g l = 4 * nest_members (members_from (pairs_of (g.F.Object.HasTree.tree l.object.now))) + 6

abbrev pub decreases-compile_member : goal.decreases-compile_member
decreases-compile_member g l = 4 * nest (g.F.NodeFamily.pair l.member.now).1 + 5

abbrev pub decreases-compile_properties : goal.decreases-compile_properties
decreases-compile_properties g l = 4 * nest (g.F.Node.HasTree.tree l.value.now) + 4

abbrev pub decreases-compile_others : goal.decreases-compile_others
decreases-compile_others g l = 4 * nest (g.F.Node.HasTree.tree l.value.now) + 4

abbrev pub decreases-compile_items : goal.decreases-compile_items
decreases-compile_items g l = 4 * nest (g.F.Node.HasTree.tree l.value.now) + 4

abbrev pub decreases-compile_not : goal.decreases-compile_not
decreases-compile_not g l = 4 * nest (g.F.Node.HasTree.tree l.value.now) + 4

abbrev pub decreases-compile_all : goal.decreases-compile_all
decreases-compile_all g l = 4 * nest (g.F.Node.HasTree.tree l.value.now) + 4

abbrev pub decreases-compile_any : goal.decreases-compile_any
decreases-compile_any g l = 4 * nest (g.F.Node.HasTree.tree l.value.now) + 4

abbrev pub decreases-compile_list : goal.decreases-compile_list
decreases-compile_list g l = 4 * nest (g.F.Node.HasTree.tree l.value.now) + 3

abbrev pub invariant-compile_members-loop-member : goal.invariant-compile_members-loop-member
invariant-compile_members-loop-member g l =
    let ps = pairs_of (g.F.Object.HasTree.tree l.object) in
    let ns = property_names ps in
    let k = length l.yielded in
    let now = all_of (map asked l.formulas.items) in
    record {
      can : (goal.iterator-compile_members-loop-member g).can_next l.member-iterator;
      ends : (goal.iterator-compile_members-loop-member g).is_finite l.member-iterator;
      left : Gives (goal.iterator-compile_members-loop-member g).next_gives g.F.NodeFamily.pair l.member-iterator (drop k ps);
      place : l.place ≡ k;
      walk : (o : Outcome) → WalksEach (members_from (drop k ps)) l.number k l.next o → WalksEach (members_from ps) l.number 0 l.first o;
      asks : (d : Tree) → (Means now d × MeetsEach ns (members_from (drop k ps)) d) ↔ MeetsEach ns (members_from ps) d;
      memory : NoMemberAsks (members_from ps) → IsFrugal now × NoMemberAsks (members_from (drop k ps));
    }

abbrev pub invariant-compile_properties-loop-member : goal.invariant-compile_properties-loop-member
invariant-compile_properties-loop-member g l =
    let ps = pairs_of (g.F.Node.HasTree.tree l.value) in
    let k = length l.yielded in
    let now = all_of (map asked l.formulas.items) in
    record {
      can : (goal.iterator-compile_properties-loop-member g).can_next l.member-iterator;
      ends : (goal.iterator-compile_properties-loop-member g).is_finite l.member-iterator;
      left : Gives (goal.iterator-compile_properties-loop-member g).next_gives g.F.NodeFamily.pair l.member-iterator (drop k ps);
      walk : (o : Outcome) → WalksValues (members_from (drop k ps)) l.next o → WalksValues (members_from ps) l.first o;
      asks : (d : Tree) → (Means now d × MeetsAtKeys (members_from (drop k ps)) d) ↔ MeetsAtKeys (members_from ps) d;
      memory : NoValueAsks (members_from ps) → IsFrugal now × NoValueAsks (members_from (drop k ps));
    }

abbrev pub invariant-compile_list-loop-element : goal.invariant-compile_list-loop-element
invariant-compile_list-loop-element g l =
    let ts = elements_of (g.F.Node.HasTree.tree l.value) in
    let k = length l.yielded in
    let now = map asked l.formulas.items in
    record {
      can : (goal.iterator-compile_list-loop-element g).can_next l.element-iterator;
      ends : (goal.iterator-compile_list-loop-element g).is_finite l.element-iterator;
      left : Gives (goal.iterator-compile_list-loop-element g).next_gives g.F.Node.HasTree.tree l.element-iterator (drop k ts);
      some : 0 < length ts;
      walk : (o : Outcome) → WalksElements (elements_from (drop k ts)) l.next o → WalksElements (elements_from ts) l.first o;
      all : (d : Tree) → (Means (all_of now) d × MeetsAllOf (elements_from (drop k ts)) d) ↔ MeetsAllOf (elements_from ts) d;
      any : (d : Tree) → (Means (any_of now) d ⊎ MeetsAnyOf (elements_from (drop k ts)) d) ↔ MeetsAnyOf (elements_from ts) d;
      memory : NoElementAsks (elements_from ts) → IsFrugal (all_of now) × NoElementAsks (elements_from (drop k ts));
    }
