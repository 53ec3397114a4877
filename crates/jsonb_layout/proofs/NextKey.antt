-- Keys that are read, taken apart.
use Rattle.std.proofs.Common.{◌≡◌, ℕ, suc, eqb, true, List, ◌∷◌, Option, Some}
use Rattle.std.specs.Prelude.{◌&&◌}
use Rattle.std.proofs.lemmas.Bool.{and_parts, eqb-true}
use Rattle.jsonb_layout.specs.Layout.{Item}
use Rattle.jsonb_layout.specs.Options.{◌>>=◌, only_if}
use Rattle.jsonb_layout.specs.inner.Reading.{Place, item_at, follows, keys_at}
use Rattle.jsonb_layout.proofs.Tools.{bind_some, guard, some_is}

-- the first of one key more, and the others
pub record NextKey (n : ℕ) (before : Option (List ℕ)) (p : Place) (r : List (List ℕ) × Place) : Type 0 where
  pub key : Item
  pub behind : Place
  pub others : List (List ℕ) × Place
  pub here : item_at p ≡ Some (key, behind)
  pub is_key : key.kind ≡ 0
  pub rises : follows before key.piece ≡ true
  pub more : keys_at n (Some key.piece) behind ≡ Some others
  pub whole : ◌≡◌ {A = List (List ℕ) × Place} (key.piece ∷ others.0, others.1) r

-- keys that are read have a first one
pub next_key : (n : ℕ) (before : Option (List ℕ)) (p : Place) (r : List (List ℕ) × Place) → keys_at (suc n) before p ≡ Some r → NextKey n before p r
unfolding keys_at
next_key n before p r e =
    let a =
    bind_some (item_at p)
    (λ x. only_if (eqb x.0.kind 0 && follows before x.0.piece) (keys_at n (Some x.0.piece) x.1) >>= λ ks. Some (x.0.piece ∷ ks.0, ks.1)) r e in
    let b =
    bind_some (only_if (eqb a.0.0.kind 0 && follows before a.0.0.piece) (keys_at n (Some a.0.0.piece) a.0.1))
    (λ ks. Some (a.0.0.piece ∷ ks.0, ks.1)) r a.2 in
    let g = guard (eqb a.0.0.kind 0 && follows before a.0.0.piece) (keys_at n (Some a.0.0.piece) a.0.1) b.0 b.1 in
    let t = and_parts (eqb a.0.0.kind 0) (follows before a.0.0.piece) g.0 in
    record {
      key = a.0.0;
      behind = a.0.1;
      others = b.0;
      here = a.1;
      is_key = eqb-true a.0.0.kind 0 t.0;
      rises = t.1;
      more = g.1;
      whole = some_is (a.0.0.piece ∷ b.0.0, b.0.1) r b.2;
    }
