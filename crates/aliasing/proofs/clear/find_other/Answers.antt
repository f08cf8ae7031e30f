use Rattle.std.proofs.Common.{◌≡◌, ◌+◌, ◌-◌, ◌*◌, sym, ◌∙◌, subst, arith}
use Rattle.aliasing.specs.Short.{Short}
use Rattle.aliasing.specs.Buckets.{Chained, IsOther, NoOther}
use Rattle.aliasing.proofs.Factors.{pair_stands}
use Rattle.aliasing.proofs.Others.{short_met, other_none, other_met, found_map, sum_here}
use Rattle.aliasing.proofs.clear.find_other.Goals as goal

-- the word's least alias is the word
pub returns-then-place-at : goal.returns-then-place-at
returns-then-place-at c =
    let met = short_met c.args.least.now c.args.i c.args.j c.requires.first c.requires.second c.requires.few c.add-sum.result c.add-sum.ensures
    c.args.last.now c.args.before.now c.requires.settled c.requires.chained c.in-Some.place c.in-Some.ensures in
    record { chained = met.0; found = met.2 c.if-place-at.true }

-- it is another word with a place
pub returns-else-place-at : goal.returns-else-place-at
returns-else-place-at c =
    let met = short_met c.args.least.now c.args.i c.args.j c.requires.first c.requires.second c.requires.few c.add-sum.result c.add-sum.ensures
    c.args.last.now c.args.before.now c.requires.settled c.requires.chained c.in-Some.place c.in-Some.ensures in
    record { chained = met.0; found = met.1 c.if-place-at.false }

-- it has more letters, or none
pub meet-requires : goal.meet-requires
meet-requires c =
    let ls = c.args.least.now in
    let l = c.requires.first in
    let sum = sum_here ls c.args.i c.args.j l c.requires.second c.requires.few c.add-sum.result c.add-sum.ensures in
    record {
      few = c.requires.few;
      long = (pair_stands ls c.args.i c.args.j l c.requires.second c.requires.few, subst (λ r. Short r → ⊥) sum c.in_default.ensures);
      sum = sum;
      chained = c.requires.chained;
    }

-- then by what it met
pub returns : goal.returns
returns c =
    let ls = c.args.least.now in
    let i = c.args.i in
    let j = c.args.j in
    let k = 32 * i + j - 1 in
    let l = c.requires.first in
    let st = pair_stands ls i j l c.requires.second c.requires.few in
    let sum = sum_here ls i j l c.requires.second c.requires.few c.add-sum.result c.add-sum.ensures in
    let next : k + 1 ≡ 32 * i + j = omega arith in
    record {
      chained = subst (λ m. Chained ls m c.meet.new.last c.meet.new.before) next c.meet.ensures.chained;
      found = found_map c.meet.result _ (NoOther ls k) _ (IsOther ls k)
          (λ none. other_none ls k st (subst (λ r. Short r → ⊥) sum c.in_default.ensures) (λ p m long e. none p m long (e ∙ sym sum)))
          (λ p h. other_met ls k st p (h.0, h.1, h.2 ∙ sum)) c.meet.ensures.found;
    }
