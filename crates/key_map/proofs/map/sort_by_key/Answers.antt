use Rattle.std.proofs.Common.{◌≡◌, rules}
use Rattle.std.specs.Ordering.{is_lt}
use Rattle.std.proofs.lemmas.Result.{IfOk-weaker}
use Rattle.std.proofs.lemmas.List.Sorted.{ranks_by, answers_always}
use Rattle.key_map.specs.Order.{key_cmp}
use Rattle.key_map.specs.Pairs.{key_of}
use Rattle.key_map.proofs.Order.{key_cmp_total}
use Rattle.key_map.proofs.map.sort_by_key.Goals as goal

pub returns-clause-sorted : goal.returns-clause-sorted
returns-clause-sorted g c =
    IfOk-weaker c.sort_by.result _ _ (λ _ s. s (λ x y. is_lt (key_cmp (key_of x) (key_of y))) (ranks_by key_cmp_total key_of)
    (answers_always _ (λ a r. is_lt r ≡ is_lt (key_cmp (key_of a.0.now) (key_of a.1.0.now))) _ (λ f a r f' k. search rules))) c.sort_by.ensures.sorted
