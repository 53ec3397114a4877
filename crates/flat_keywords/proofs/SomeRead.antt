-- Reading bytes gives something: a tree that is JSON, or the cause of a refusal.
use Rattle.std.proofs.Common.{◌≡◌, ℕ, List, true, false, Bool, Option, Some, None, refl, sym, ◌∙◌}
use Rattle.std.specs.Prelude.{Result, Ok, Err}
use Rattle.json_model.specs.Tree.{Tree}
use Rattle.jsonb_layout.specs.Stands.{Stands}
use Rattle.jsonb_layout.specs.Trees.{tree_of}
use Rattle.jsonb_layout.proofs.Containers.{tree_takes, tree_again}
use Rattle.jsonb_layout.proofs.Tools.{IsBytes}
use Rattle.jsonb.specs.Found.{tree_found}
use Rattle.jsonb.specs.Root.{IsRead}
use Rattle.jsonb.specs.declared.error.JsonbError.{JsonbError}
use Rattle.jsonb.specs.declared.error.JsonbError.TheVariants as errors
use Rattle.jsonb.proofs.TreeCauses.{of_text, of_narrow, text_of, narrow_of, differ}

-- what is found in the tree that stands says which it is
by_found : (b : List ℕ) (t : Tree) → Stands b t → (not_text wide : Bool) → (tree_found t).not_text ≡ not_text
    → (tree_found t).wide ≡ wide → (s : Result Tree JsonbError) × IsRead b s
by_found b t h true wide e f = (Err errors.NotText, (t, h, λ text. differ (tree_found t).not_text e (of_text t text)))
by_found b t h false true e f = (Err errors.NumberTooWide, (t, h, text_of t e, λ narrow. differ (tree_found t).wide f (of_narrow t narrow)))
by_found b t h false false e f = (Ok t, (h, (text_of t e, narrow_of t f)))

none_stands : (b : List ℕ) (t : Tree) → tree_of b ≡ None → Stands b t → ⊥
none_stands b t e h = let k : None ≡ Some t = sym e ∙ tree_again b t h in cc

by_tree : (b : List ℕ) → IsBytes b → (o : Option Tree) → tree_of b ≡ o → (s : Result Tree JsonbError) × IsRead b s
by_tree b fits None e = (Err errors.Malformed, λ t h. none_stands b t e h)
by_tree b fits (Some t) e = by_found b t (tree_takes b t fits e) (tree_found t).not_text (tree_found t).wide refl refl

pub some_read : (b : List ℕ) → IsBytes b → (s : Result Tree JsonbError) × IsRead b s
some_read b fits = by_tree b fits (tree_of b) refl
