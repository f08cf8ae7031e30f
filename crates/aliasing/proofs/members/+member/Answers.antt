use Rattle.std.proofs.Common.{ℕ, List, [], eqb, inl, inr, ◌≡◌, ◌/◌, ◌%◌, ◌<◌, ◌≤◌, length, get_or, Some, None, sym, ap, ◌∙◌, subst, arith, rules}
use Rattle.std.specs.Bool.{then_some}
use Rattle.std.proofs.lemmas.Bool.{cases_Bool, eqb-true, eqb-false}
use Rattle.std.proofs.lemmas.Nat.{mod_below}
use Rattle.levels.specs.Alias.{alias_set}
use Rattle.levels.proofs.Space.{zero_level}
use Rattle.aliasing.specs.Blocks.{block, above, Entry}
use Rattle.aliasing.proofs.Floors.{above_end, above_next, entry-end, entry_past, entry_none, entry-some, rows-ladder}
use Rattle.aliasing.proofs.Ladders.{Ladder, alias-is-word}
use Rattle.aliasing.proofs.members.+member.Goals as goal

-- member 0 alone
only : (us : List ℕ) (m x : ℕ) → (m ≡ 0 → Entry us m (Some x)) → ((m ≡ 0 → ⊥) → Entry us m None) → Entry us m (then_some (eqb m 0) x)
only us m x here past = elim (cases_Bool (eqb m 0)) [
  | inl t ↦ subst (λ b. Entry us m (then_some b x)) (sym t) (here (eqb-true m 0 t))
  | inr f ↦ subst (λ b. Entry us m (then_some b x)) (sym f) (past (eqb-false m 0 f))
]

-- over no row the word is member 0, and there is no other
pub returns-in_default : goal.returns-in_default
returns-in_default g t c e hw =
    let A = g.L.Levels.model in
    let L = g.met.L.Levels.lawful in
    let n = c.args.n in
    let w = c.args.word in
    let m = c.args.m in
    rw c.then_some.ensures (subst (λ us. Entry (alias_set A n us w) m (then_some (eqb m 0) w)) (sym (above_end c.args.rows.now c.args.floor c.in_default.ensures))
    (only (alias_set A n [] w) m w (entry-end A L n w hw m) (entry_past A L n w hw m)))

-- the larger rows are one fewer
pub member-requires : goal.member-requires
member-requires g t c κs within =
    let rows = c.args.rows.now in
    let row = c.in-Some.row in
    let next = c.in-Some.ensures in
    let falls : length (above row rows) < length (above c.args.floor rows) = omega (arith, ap length (above_next rows c.args.floor row next.0 next.1)) in
    search rules

-- past the last alias over the larger rows there is nothing
pub returns-in_err-start : goal.returns-in_err-start
returns-in_err-start g t c e hw =
    let A = g.L.Levels.model in
    let L = g.met.L.Levels.lawful in
    let n = c.args.n in
    let m = c.args.m in
    let rows = c.args.rows.now in
    let row = c.in-Some.row in
    let next = c.in-Some.ensures in
    let split = above_next rows c.args.floor row next.0 next.1 in
    let levels : c.from-levels.result ≡ A.s = c.from-levels.ensures ∙ c.LEVELS.ensures ∙ g.met.L.Levels.levels in
    let past = c.in_err-start.ensures e hw in
    rw c.from_residual.ensures
    (subst (λ us. Entry (alias_set A n us c.args.word) m None) (sym split)
    (entry_none A L n c.args.word hw row (above row rows) (subst (Ladder A n) split (rows-ladder A L n rows e c.args.floor)) m
    (subst (λ s. length (alias_set A n (above row rows) c.args.word) ≤ m / s) levels past)))

-- a member is in the block of an alias over the larger rows
pub returns : goal.returns
returns g t c e hw =
    let A = g.L.Levels.model in
    let L = g.met.L.Levels.lawful in
    let n = c.args.n in
    let m = c.args.m in
    let rows = c.args.rows.now in
    let row = c.in-Some.row in
    let next = c.in-Some.ensures in
    let split = above_next rows c.args.floor row next.0 next.1 in
    let ladder = subst (Ladder A n) split (rows-ladder A L n rows e c.args.floor) in
    let levels : c.from-levels.result ≡ A.s = c.from-levels.ensures ∙ c.LEVELS.ensures ∙ g.met.L.Levels.levels in
    let start = c.in_ok-start.start in
    let at = c.in_ok-start.ensures e hw in
    let within : m / A.s < length (alias_set A n (above row rows) c.args.word) = subst (λ s. m / s < length (alias_set A n (above row rows) c.args.word)) levels at.0 in
    let same : start ≡ get_or (alias_set A n (above row rows) c.args.word) (m / A.s) 0 = at.1 ∙ ap (λ s. get_or (alias_set A n (above row rows) c.args.word) (m / s) 0) levels in
    let word = alias-is-word A L n c.args.word hw (above row rows) start (m / A.s, within, sym same) in
    let place : m % c.from-levels.result < A.s = subst (λ s. m % s < A.s) (sym levels) (mod_below m A.s (zero_level A L)) in
    let picked : c.pick.result ≡ Some (get_or (block A n row start) (m % A.s) 0) =
    c.pick.ensures ladder.0 ladder.1 word place ∙ ap (λ s. Some (get_or (block A n row start) (m % s) 0)) levels in
    subst (λ us. Entry (alias_set A n us c.args.word) m c.pick.result) (sym split)
    (entry-some A L n c.args.word hw row (above row rows) ladder m start c.pick.result within same picked)
