-- Which set of types allows a tree, by how it is written.
use Rattle.std.proofs.Common.{◌≡◌, inl, inr, Bool, true, false, ◌&&◌, ◌||◌, refl, sym, ap, ◌∙◌}
use Rattle.std.proofs.lemmas.Bool.{false≢true}
use Rattle.std.specs.Prelude.{◌↔◌, IsTrue}
use Rattle.json_model.specs.Tree.{Tree}
use Rattle.json_traits.specs.Kinds.{type_of}
use Rattle.json_traits.specs.Sets.{holds}
use Rattle.json_traits.specs.declared.types.json_type.JsonType.TheVariants.{Integer}
use Rattle.json_traits.specs.declared.types.set.JsonTypeSet.{JsonTypeSet}
use Rattle.flat_keywords.specs.Draft4.{IsWrittenWhole}
use Rattle.flat_keywords.specs.inner.Passes.{AllowsWritten}

-- the set holds the tree's own type, or `integer` where no fraction digits are written
pub allows : (set : JsonTypeSet) (d : Tree) (a b w : Bool) → a ≡ holds set (type_of d) → b ≡ holds set Integer → (IsTrue w ↔ IsWrittenWhole d)
    → IsTrue (a || (b && w)) ↔ AllowsWritten set d
allows set d true b w own integer whole = (λ h. (type_of d, sym own, inl refl), λ h. refl)
allows set d false true true own integer whole = (λ h. (Integer, sym integer, inr (refl, whole.0 refl)), λ h. refl)
allows set d false true false own integer whole = (λ h. absurd (false≢true h), back)
  where
    back : AllowsWritten set d → false ≡ true
    back (t, held, inl is) = own ∙ ap (holds set) (sym is) ∙ held
    back (t, held, inr (is, written)) = whole.1 written
allows set d false false w own integer whole = (λ h. absurd (false≢true h), back)
  where
    back : AllowsWritten set d → false ≡ true
    back (t, held, inl is) = own ∙ ap (holds set) (sym is) ∙ held
    back (t, held, inr (is, written)) = integer ∙ ap (holds set) (sym is) ∙ held
