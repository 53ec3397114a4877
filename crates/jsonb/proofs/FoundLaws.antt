-- Laws of what is found.
use Rattle.std.proofs.Common.{◌≡◌, ℕ, List, [], ◌∷◌, length, Bool, true, false, Option, Some, None, refl, sym, ap, ◌∙◌, arith}
use Rattle.std.specs.Prelude.{◌||◌}
use Rattle.json_model.specs.Tree.{Elements, no_elements, element}
use Rattle.jsonb_layout.specs.inner.Trees.{members}
use Rattle.jsonb_layout.proofs.Containers.{count}
use Rattle.jsonb.specs.declared.found.Found.{Found}
use Rattle.jsonb.specs.Found.{nothing, both, text_found, keys_found, tree_found, elements_found, members_found}
use Rattle.jsonb.specs.inner.Frames.{combine}

or_assoc : (a b c : Bool) → ((a || b) || c) ≡ (a || (b || c))
or_assoc true b c = refl
or_assoc false b c = refl

or_false : (a : Bool) → (a || false) ≡ a
or_false true = refl
or_false false = refl

or_comm : (a b : Bool) → (a || b) ≡ (b || a)
or_comm true true = refl
or_comm true false = refl
or_comm false b = sym (or_false b)

-- what is found in three parts does not depend on their grouping
pub both_assoc : (a b c : Found) → both (both a b) c ≡ both a (both b c)
both_assoc a b c = rw (or_assoc a.not_text b.not_text c.not_text, or_assoc a.wide b.wide c.wide) refl

-- nothing adds nothing
pub both_nothing : (f : Found) → both f nothing ≡ f
both_nothing f = rw (or_false f.not_text, or_false f.wide) refl

both_comm : (a b : Found) → both a b ≡ both b a
both_comm a b = rw (or_comm a.not_text b.not_text, or_comm a.wide b.wide) refl

both_shuffle : (a b c d : Found) → both (both a b) (both c d) ≡ both (both a c) (both b d)
both_shuffle a b c d =
    both_assoc a b (both c d)
    ∙ ap (both a) (sym (both_assoc b c d) ∙ ap (λ (x : Found). both x d) (both_comm b c) ∙ both_assoc c b d)
    ∙ sym (both_assoc a c (both b d))

some_found : (f g : Found) → f ≡ g → ◌≡◌ {A = Option Found} (Some f) (Some g)
some_found f g e = ap (λ (h : Found). Some h) e

-- where one part is missing, the whole is
pub combine_none : (a : Option Found) → combine a None ≡ None
combine_none None = refl
combine_none (Some f) = refl

-- parts may be grouped anyhow
pub combine_assoc : (a b c : Option Found) → combine (combine a b) c ≡ combine a (combine b c)
combine_assoc None b c = refl
combine_assoc (Some f) None c = refl
combine_assoc (Some f) (Some g) None = refl
combine_assoc (Some f) (Some g) (Some h) = some_found _ _ (both_assoc f g h)

-- parts may be taken in any order
pub combine_comm : (a b : Option Found) → combine a b ≡ combine b a
combine_comm None None = refl
combine_comm None (Some g) = refl
combine_comm (Some f) None = refl
combine_comm (Some f) (Some g) = some_found _ _ (both_comm f g)

-- a part with nothing in it, behind
pub combine_nothing : (a : Option Found) → combine a (Some nothing) ≡ a
combine_nothing None = refl
combine_nothing (Some f) = some_found _ _ (both_nothing f)

-- a part with nothing in it, in front
pub nothing_combine : (a : Option Found) → combine (Some nothing) a ≡ a
nothing_combine None = refl
nothing_combine (Some f) = refl

-- what is there with another is there
pub combine_some : (a b : Option Found) (f : Found) → combine a b ≡ Some f → (g : Found) × (a ≡ Some g)
combine_some None b f e = absurd cc
combine_some (Some g) b f e = (g, refl)

-- what is found in members is found in their keys or in their values
pub members_found_is : (ks : List (List ℕ)) (ts : Elements) → length ks ≡ count ts
    → members_found (members ks ts) ≡ both (keys_found ks) (elements_found ts)
members_found_is [] no_elements e = refl
members_found_is [] (element t ts) e = absurd cc
members_found_is (k ∷ ks) no_elements e = absurd cc
members_found_is (k ∷ ks) (element t ts) e =
    ap (both (both (text_found k) (tree_found t))) (members_found_is ks ts (omega arith))
    ∙ both_shuffle (text_found k) (tree_found t) (keys_found ks) (elements_found ts)
