-- What is known of the codes of documents, by what is known of the code of one.
use Rattle.std.proofs.Common.{ℕ, List, ◌<◌, length}
use Rattle.judge_c.specs.Many.{IsCodedAt}

-- Where each code that one document may have by P is one that it may have by Q, so are those of many.
pub all_coded_by : (P Q : List ℕ → ℕ → Type 0) → ((d : List ℕ) (n : ℕ) → P d n → Q d n) → (ds os cs : List ℕ)
    → ((i : ℕ) → i < length cs → IsCodedAt P ds os cs i) → (i : ℕ) → i < length cs → IsCodedAt Q ds os cs i
all_coded_by P Q f ds os cs all i lt = let is = all i lt in record { there = λ h. f _ _ (is.there h); absent = is.absent }
