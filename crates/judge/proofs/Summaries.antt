-- So many pairs have one summary at most.
use Rattle.std.proofs.Common.{◌≡◌, inl, inr, ℕ, zero, suc, ◌+◌, List, [], ◌++◌, Option, Some, sym, ap, ◌∙◌, subst, append-nil}
use Rattle.json_exact.specs.Serde.{Writes, tree_of}
use Rattle.json_model.specs.Tree.{Tree}
use Rattle.serde_json.specs.Data.{Data}
use Rattle.judge.specs.Made.{AreValid, IsMadeText, IsSummary, IsSummaryCutOff, summary_text}
use Rattle.line_program.specs.declared.status.Status.{Status}
use Rattle.line_program.specs.declared.status.Status.TheVariants.{Done, BadWords, ReadFault, WriteFault, LineTooLong, InputTooLong, OutOfMemory}

-- a text writes one tree
one_written : (text : List ℕ) (t u : Tree) → Writes text t → Writes text u → t ≡ u
one_written text t u h g =
    let values : ◌≡◌ {A = Option Data} (Some h.0) (Some g.0) = sym h.1 ∙ g.1 in
    let same : h.0 ≡ g.0 = cc in
    let trees : ◌≡◌ {A = Option Tree} (Some t) (Some u) = sym h.2 ∙ ap tree_of same ∙ g.2 in
    cc

-- so many are valid
one_count : (k : Tree) (n v w : ℕ) → AreValid k n v → AreValid k n w → v ≡ w
one_count k zero v w h g = h ∙ sym g
one_count k (suc n) v w (inl h) (inl g) = h.3 ∙ ap (λ (m : ℕ). m + 1) (one_count k n h.1 g.1 h.2 g.2) ∙ sym g.3
one_count k (suc n) v w (inl h) (inr g) = absurd (g.0 h.0)
one_count k (suc n) v w (inr h) (inl g) = absurd (h.0 g.0)
one_count k (suc n) v w (inr h) (inr g) = one_count k n v w h.1 g.1

pub one_summary : (count : ℕ) (a b : List ℕ) → IsSummary count a → IsSummary count b → a ≡ b
one_summary count a b h g =
    let same = one_written _ h.keywords g.keywords h.writes g.writes in
    let valid = one_count g.keywords count h.valid g.valid (subst (λ (k : Tree). AreValid k count h.valid) same h.are) g.are in
    h.is ∙ ap (summary_text count) valid ∙ sym g.is

cut_begins : (count : ℕ) (text summary : List ℕ) → IsSummaryCutOff count text → IsSummary count summary
    → (rest : List ℕ) × (summary ≡ text ++ rest)
cut_begins count text summary h g = (h.missing, one_summary count summary (text ++ h.missing) g h.whole)

-- what `make` wrote begins the summary
pub made_begins : (count : ℕ) (status : Status) (text summary : List ℕ) → IsMadeText count status text → IsSummary count summary
    → (rest : List ℕ) × (summary ≡ text ++ rest)
made_begins count Done text summary h g = ([], one_summary count summary text g h ∙ sym (append-nil text))
made_begins count WriteFault text summary h g = cut_begins count text summary h g
made_begins count OutOfMemory text summary (inl none) g = (summary, ap (λ (t : List ℕ). t ++ summary) (sym none))
made_begins count OutOfMemory text summary (inr cut) g = cut_begins count text summary cut g
made_begins count BadWords text summary h g = absurd h
made_begins count ReadFault text summary h g = absurd h
made_begins count LineTooLong text summary h g = absurd h
made_begins count InputTooLong text summary h g = absurd h
