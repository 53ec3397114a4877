-- Reading bytes gives one thing.
use Rattle.std.proofs.Common.{◌≡◌, List, ℕ, refl, ap, subst}
use Rattle.std.specs.Prelude.{Result, Ok, Err}
use Rattle.json_model.specs.Json.{IsText, HasNarrow}
use Rattle.json_model.specs.Tree.{Tree}
use Rattle.jsonb_layout.specs.Stands.{Stands}
use Rattle.jsonb_layout.proofs.Containers.{one_tree}
use Rattle.jsonb.specs.Root.{IsRead}
use Rattle.jsonb.specs.declared.error.JsonbError.{JsonbError}
use Rattle.jsonb.specs.declared.error.JsonbError.TheVariants as errors

text_for : (b : List ℕ) (t u : Tree) → Stands b t → Stands b u → IsText t → IsText u
text_for b t u h k x = subst IsText (one_tree b t u h k) x

narrow_for : (b : List ℕ) (t u : Tree) → Stands b t → Stands b u → HasNarrow t → HasNarrow u
narrow_for b t u h k x = subst HasNarrow (one_tree b t u h k) x

pub one_read : (b : List ℕ) (x y : Result Tree JsonbError) → IsRead b x → IsRead b y → x ≡ y
one_read b (Ok t) (Ok u) h k = ap (λ (t : Tree). let r : Result Tree JsonbError = Ok t in r) (one_tree b t u h.0 k.0)
one_read b (Ok t) (Err errors.Malformed) h k = absurd (k t h.0)
one_read b (Ok t) (Err errors.NotText) h k = absurd (k.2 (text_for b t k.0 h.0 k.1 h.1.0))
one_read b (Ok t) (Err errors.NumberTooWide) h k = absurd (k.3 (narrow_for b t k.0 h.0 k.1 h.1.1))
one_read b (Ok t) (Err errors.OutOfMemory) h k = absurd k
one_read b (Err errors.Malformed) (Ok u) h k = absurd (h u k.0)
one_read b (Err errors.Malformed) (Err errors.Malformed) h k = refl
one_read b (Err errors.Malformed) (Err errors.NotText) h k = absurd (h k.0 k.1)
one_read b (Err errors.Malformed) (Err errors.NumberTooWide) h k = absurd (h k.0 k.1)
one_read b (Err errors.Malformed) (Err errors.OutOfMemory) h k = absurd k
one_read b (Err errors.NotText) (Ok u) h k = absurd (h.2 (text_for b u h.0 k.0 h.1 k.1.0))
one_read b (Err errors.NotText) (Err errors.Malformed) h k = absurd (k h.0 h.1)
one_read b (Err errors.NotText) (Err errors.NotText) h k = refl
one_read b (Err errors.NotText) (Err errors.NumberTooWide) h k = absurd (h.2 (text_for b k.0 h.0 k.1 h.1 k.2))
one_read b (Err errors.NotText) (Err errors.OutOfMemory) h k = absurd k
one_read b (Err errors.NumberTooWide) (Ok u) h k = absurd (h.3 (narrow_for b u h.0 k.0 h.1 k.1.1))
one_read b (Err errors.NumberTooWide) (Err errors.Malformed) h k = absurd (k h.0 h.1)
one_read b (Err errors.NumberTooWide) (Err errors.NotText) h k = absurd (k.2 (text_for b h.0 k.0 h.1 k.1 h.2))
one_read b (Err errors.NumberTooWide) (Err errors.NumberTooWide) h k = refl
one_read b (Err errors.NumberTooWide) (Err errors.OutOfMemory) h k = absurd k
one_read b (Err errors.OutOfMemory) y h k = absurd h
