use Rattle.std.proofs.Common.{◌≡◌, rules}
use Rattle.std.proofs.lemmas.Fn.{always_returns_same}
use Rattle.key_map.specs.Order.{key_cmp}
use Rattle.key_map.specs.Pairs.{key_of}
use Rattle.key_map.proofs.Members.{place_searched}
use Rattle.key_map.proofs.map.find.Goals as goal

pub returns : goal.returns
returns g c =
    let key = c.args.key.now in
    place_searched c.args.members.now key _ c.requires c.binary_search_by.ensures.bound
    (c.binary_search_by.ensures.position (λ m. key_cmp (key_of m) key)
    (always_returns_same _ (λ a r. r ≡ key_cmp (key_of a.0.now) key) _ (λ a r f' k. search rules)))
