-- What the exports answer, once the levels are known: first of numbers, then of the plan of a file.
use Rattle.std.specs.Prelude.{ℕ, List, length, Some, None, Ok, Option, Result}
use Rattle.levels.specs.Arithmetic.{Arithmetic, two}
use Rattle.preferences.specs.Verdicts.{verdict}
use Rattle.aliasing.specs.Clear.{clear_bytes}
use Rattle.aliasing.specs.Pattern.{pattern, resolution}
use Rattle.contents.specs.declared.side.Side.{Side}
use Rattle.contents.specs.Content.{Content, admitted, side_of, started, struck, word_at}
use Rattle.planfile.specs.File.{file_of, read_file}
use Rattle.plan.specs.Answers.{alias_member, alias_set_of, block_of, chosen, chosen_scores, defined, run_of, runs_from, wrote_ones}
use Rattle.page.specs.Page.{page}
use Rattle.history.specs.Files.{levels_of}
use Rattle.bindings.specs.declared.numbers.ScoredRule.{ScoredRule}
use Rattle.bindings.specs.declared.refused.Refused.{Refused}
use Rattle.bindings.specs.Asked.{and_then, asked, filed, seen}
use Rattle.bindings.specs.Numbers.{relation, rule_by, scored_points, scored_relation, scored_rule_by, side_by, verdict_number}

-- the file of the plan as it was read
abbrev pub same_file : Arithmetic → List ℕ → Result (List ℕ) Refused
same_file A file = seen (read_file A file) (file_of A)

-- the file of a plan with n factors and no words, whatever there was
abbrev pub started_file : Arithmetic → List ℕ → ℕ → Result (List ℕ) Refused
started_file A file n = filed A (asked (read_file A file) (λ p. started n))

-- the file of the plan with one word more
abbrev pub admitted_file : Arithmetic → List ℕ → ℕ → ℕ → Result (List ℕ) Refused
admitted_file A file side word =
    and_then (side_by side) (λ s. filed A (asked (read_file A file) (admitted A s word)))

-- the file of the plan without the word at a place
abbrev pub struck_file : Arithmetic → List ℕ → ℕ → ℕ → Result (List ℕ) Refused
struck_file A file side place =
    and_then (side_by side) (λ s. filed A (asked (read_file A file) (struck s place)))

-- the number of factors
abbrev pub factors_in : Arithmetic → List ℕ → Result ℕ Refused
factors_in A file = seen (read_file A file) (λ p. p.factors)

-- how many words a list has
abbrev pub count_in : Arithmetic → List ℕ → ℕ → Result ℕ Refused
count_in A file side =
    and_then (side_by side) (λ s. seen (read_file A file) (λ p. length (side_of s p)))

-- a word of a list, by its place
abbrev pub word_in : Arithmetic → List ℕ → ℕ → ℕ → Result ℕ Refused
word_in A file side place =
    and_then (side_by side) (λ s. asked (read_file A file) (word_at s place))

-- the generators of a side by a preference
abbrev pub generators_in : Arithmetic → List ℕ → ℕ → ℕ → List ℕ → Result (List ℕ) Refused
generators_in A file side preference costs =
    and_then (side_by side) (λ s.
    and_then (rule_by preference) (λ rule.
    seen (read_file A file) (chosen A (relation A costs rule) s)))

-- the generators of a side by a scored rule, and their scores
abbrev pub scored : Arithmetic → List ℕ → ScoredRule → Side → Content → List ℕ × List ℕ
scored A costs rule side p =
    let good = scored_relation A costs rule in
    (chosen A good side p, chosen_scores A good (scored_points A costs rule) side p)

-- the same of the plan of a file
abbrev pub scored_in : Arithmetic → List ℕ → ℕ → ℕ → List ℕ → Result (List ℕ × List ℕ) Refused
scored_in A file side preference costs =
    and_then (side_by side) (λ s.
    and_then (scored_rule_by preference) (λ rule.
    seen (read_file A file) (scored A costs rule s)))

-- the number of the verdict of a preference on two codes, with no file
abbrev pub verdict_by : Arithmetic → ℕ → List ℕ → ℕ → List ℕ → ℕ → ℕ → Result ℕ Refused
verdict_by A preference costs n base a b =
    and_then (rule_by preference) (λ rule.
    Ok (verdict_number (verdict A (relation A costs rule) n base a b)))

-- the wordlength pattern of the defining words
abbrev pub pattern_in : Arithmetic → List ℕ → Result (List ℕ) Refused
pattern_in A file = seen (read_file A file) (λ p. pattern A p.factors (defined A p))

-- the length of a resolution; 0 where there is none
abbrev pub length_part : Option (ℕ × ℕ) → ℕ
length_part None = 0
length_part (Some r) = r.0

-- the count of a resolution; 0 where there is none
abbrev pub count_part : Option (ℕ × ℕ) → ℕ
count_part None = 0
count_part (Some r) = r.1

-- the resolution of the defining words
abbrev pub resolution_in : Arithmetic → List ℕ → Result ℕ Refused
resolution_in A file =
    seen (read_file A file) (λ p. length_part (resolution A p.factors (defined A p)))

-- how many defining words have that length
abbrev pub resolution_count_in : Arithmetic → List ℕ → Result ℕ Refused
resolution_count_in A file =
    seen (read_file A file) (λ p. count_part (resolution A p.factors (defined A p)))

-- alias member m of a word
abbrev pub alias_member_in : Arithmetic → List ℕ → ℕ → ℕ → Result ℕ Refused
alias_member_in A file word m = asked (read_file A file) (alias_member A word m)

-- the alias set of a word
abbrev pub alias_set_in : Arithmetic → List ℕ → ℕ → Result (List ℕ) Refused
alias_set_in A file word = asked (read_file A file) (alias_set_of A word)

-- with two levels, one byte for each pair of factors
abbrev pub clear_in : List ℕ → Result (List ℕ) Refused
clear_in file = seen (read_file two file) (λ p. clear_bytes p.factors p.defining)

-- how many pairs are clear, where the bytes go into memory
abbrev pub clear_count_in : List ℕ → List ℕ → Result ℕ Refused
clear_count_in file memory =
    asked (read_file two file) (λ p. wrote_ones (clear_bytes p.factors p.defining) memory)

-- with two levels, run m, from 0
abbrev pub run_in : List ℕ → ℕ → Result ℕ Refused
run_in file m = asked (read_file two file) (run_of m)

-- with two levels, so many runs from a place on
abbrev pub runs_in : List ℕ → ℕ → ℕ → Result (List ℕ) Refused
runs_in file first count = asked (read_file two file) (runs_from first count)

-- with two levels, the block number of a run under a list of words
abbrev pub block_number_in : List ℕ → ℕ → List ℕ → Result ℕ Refused
block_number_in file run words = asked (read_file two file) (block_of run words)

-- the page, at the levels that the file names
abbrev pub page_in : List ℕ → Result (List ℕ) Refused
page_in file = seen (read_file (levels_of file) file) (page (levels_of file))
