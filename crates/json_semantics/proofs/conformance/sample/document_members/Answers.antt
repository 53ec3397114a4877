use Rattle.std.proofs.Common.{drop, pos, true}
use Rattle.json_exact.specs.Trees.{pairs}
use Rattle.json_traits.specs.Numbers.{whole}
use Rattle.json_semantics.specs.Conformance.{the_members}
use Rattle.json_semantics.proofs.ConformanceLaws.{forty_two, nothing_put, one_and_a_half, put_on, the_list, tree_boolean, tree_null}
use Rattle.json_semantics.proofs.conformance.sample.document_members.Goals as goal

pub number-requires : goal.number-requires
number-requires c = (whole (pos 42), forty_two)

pub number-requires-2 : goal.number-requires-2
number-requires-2 c = (record { digits = pos 15; places = 1 }, one_and_a_half)

pub returns : goal.returns
unfolding the_members lib.Utf8.encode
returns c =
    let none = nothing_put (pairs c.new-members.result) c.new-members.ensures in
    let duplicates = put_on _ _ (drop 8 the_members) _ _ _ c.in_ok-duplicates.ensures none c.in_ok-put.ensures in
    let integer = put_on _ _ (drop 7 the_members) _ _ _ (c.number.ensures (whole (pos 42)) forty_two) duplicates c.in_ok-put-2.ensures in
    let boolean = put_on _ _ (drop 6 the_members) _ _ _ (tree_boolean true) integer c.in_ok-put-3.ensures in
    let string = put_on _ _ (drop 5 the_members) _ _ _ c.in_ok-text.ensures boolean c.in_ok-put-4.ensures in
    let object = put_on _ _ (drop 4 the_members) _ _ _ c.in_ok-nested.ensures string c.in_ok-put-5.ensures in
    let float = put_on _ _ (drop 3 the_members) _ _ _ (c.number-2.ensures (record { digits = pos 15; places = 1 }) one_and_a_half) object
    c.in_ok-put-6.ensures in
    let array = put_on _ _ (drop 2 the_members) _ _ _ c.in_ok-tens.ensures float c.in_ok-put-7.ensures in
    let null = put_on _ _ (drop 1 the_members) _ _ _ tree_null array c.in_ok-put-8.ensures in
    the_list (pairs c.put-8.new.members) c.iter-members.ensures.rise null
