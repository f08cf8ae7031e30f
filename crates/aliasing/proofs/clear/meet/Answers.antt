use Rattle.std.proofs.Common.{◌≡◌, ◌+◌, ◌-◌, get_or, set, sym, ap, ◌∙◌, subst}
use Rattle.aliasing.specs.Short.{sum_at}
use Rattle.aliasing.specs.Buckets.{bucket_of, LastBefore}
use Rattle.aliasing.proofs.Chains.{bucket_below, chained_met, met_first, met_more}
use Rattle.aliasing.proofs.clear.meet.Goals as goal

-- the word is the last of its bucket
pub returns-then-sum_of-sum-clause-chained : goal.returns-then-sum_of-sum-clause-chained
returns-then-sum_of-sum-clause-chained c =
    chained_met c.args.least.now c.args.at c.args.sum c.bucket-bucket.result c.args.last.now c.args.before.now c.requires.long c.requires.few c.requires.sum c.bucket-bucket.ensures c.requires.chained

pub returns-clause-chained : goal.returns-clause-chained
returns-clause-chained c =
    chained_met c.args.least.now c.args.at c.args.sum c.bucket-bucket.result c.args.last.now c.args.before.now c.requires.long c.requires.few c.requires.sum c.bucket-bucket.ensures c.requires.chained

-- none is met yet
pub loop-place-init : goal.loop-place-init
loop-place-init c =
    let ls = c.args.least.now in
    let k = c.args.at in
    let is : c.bucket-bucket.result ≡ bucket_of (sum_at ls k) = c.bucket-bucket.ensures ∙ ap bucket_of c.requires.sum in
    rw c.from-place.ensures (met_first ls k (get_or c.args.last.now c.bucket-bucket.result 0)
    (subst (λ b. LastBefore ls (bucket_of (sum_at ls k)) k (get_or c.args.last.now b 0)) (sym is) (c.requires.chained.lasts (bucket_of (sum_at ls k)) (bucket_below (sum_at ls k)))))

-- one word more is met
pub loop-place-preserved : goal.loop-place-preserved
loop-place-preserved c =
    let ls = c.args.least.now in
    let k = c.args.at in
    let b = c.bucket-bucket.result in
    let last = c.args.last.now in
    let before = c.args.before.now in
    let apart : sum_at ls (c.loop-place.place - 1) ≡ sum_at ls k → ⊥ = λ e. c.if-sum_of-sum.false (c.sum_of.ensures ∙ e ∙ sym c.requires.sum) in
    let h = chained_met ls k c.args.sum b last before c.requires.long c.requires.few c.requires.sum c.bucket-bucket.ensures c.requires.chained in
    rw c.from-place-in-loop-place.ensures (met_more ls k (set last b (k + 1)) (set before k (get_or last b 0)) h c.loop-place.place c.loop-place-test.true c.loop-place.invariant apart)
