-- What the command `make` judges, and what it writes. This project's own.
use Rattle.std.specs.Prelude.{◌≡◌, ◌⊎◌, ◌<◌, ◌-◌, ◌*◌, ◌%◌, ◌+◌, ℕ, zero, suc, pos, List, [], ◌∷◌, ◌++◌, length, codes, decimal}
use Rattle.std.specs.declared.option.Option.{Option}
use Rattle.std.specs.Io.KnownBytes.{Appends}
use Rattle.json_exact.specs.Serde.{Writes, whole}
use Rattle.json_model.specs.Parts.{elements_from}
use Rattle.json_model.specs.Tree.{Tree, array}
use Rattle.flat_keywords.specs.Verdict.{Verdict}
use Rattle.line_program.specs.declared.status.Status.{Status}
use Rattle.line_program.specs.declared.status.Status.TheVariants.{Done, BadWords, ReadFault, WriteFault, LineTooLong, InputTooLong, OutOfMemory}

-- ---- the pairs

-- the JSON text of the keyword object of each pair
abbrev pub keywords_text : List ℕ
keywords_text = codes "{\"type\":\"array\",\"maxItems\":50,\"uniqueItems\":true}"

-- the first n multiples of a number, from 0 on, each modulo 101
abbrev pub multiples : ℕ → ℕ → List Tree
multiples number zero = []
multiples number (suc n) = multiples number n ++ whole (pos (number * n % 101)) ∷ []

-- the document of the pair of this number
abbrev pub document : ℕ → Tree
document number = array (elements_from (multiples number (number % 100)))

-- of the first n documents this many are valid under the keyword object k
abbrev pub AreValid : Tree → ℕ → ℕ → Type 0
AreValid k zero valid = valid ≡ 0
AreValid k (suc n) valid =
    (Verdict k (document n) × (before : ℕ) × AreValid k n before × (valid ≡ before + 1))
    ⊎ ((Verdict k (document n) → ⊥) × AreValid k n valid)

-- ---- what is written

-- the line that says how many pairs there are, how many of them are valid and how many are not, with its end
abbrev pub summary_text : ℕ → ℕ → List ℕ
summary_text count valid =
    codes "pairs " ++ decimal count ++ codes " valid " ++ decimal valid ++ codes " invalid " ++ decimal (count - valid) ++ 10 ∷ []

-- the text is that line
pub record IsSummary (count : ℕ) (text : List ℕ) : Type 0 where
  pub keywords : Tree
  pub writes : Writes keywords_text keywords
  pub valid : ℕ
  pub are : AreValid keywords count valid
  pub is : text ≡ summary_text count valid

-- the summary was begun and not written whole
pub record IsSummaryCutOff (count : ℕ) (begun : List ℕ) : Type 0 where
  pub missing : List ℕ
  pub whole : IsSummary count (begun ++ missing)
  pub some : 0 < length missing

-- how much of the summary the text is, by the run's status
abbrev pub IsMadeText : ℕ → Status → List ℕ → Type 0
IsMadeText count Done text = IsSummary count text
IsMadeText count WriteFault text = IsSummaryCutOff count text
IsMadeText count OutOfMemory text = (text ≡ []) ⊎ IsSummaryCutOff count text
IsMadeText count BadWords text = ⊥
IsMadeText count ReadFault text = ⊥
IsMadeText count LineTooLong text = ⊥
IsMadeText count InputTooLong text = ⊥

-- what the run wrote to its sink, and how that agrees with its status; the two lists are the bytes written, before and after,
-- where the sink tells them
pub record Made (count : ℕ) (written_before written_now : Option (List ℕ)) (status : Status) : Type 0 where
  pub text : List ℕ
  pub writes : Appends written_before written_now text
  pub agrees : IsMadeText count status text
