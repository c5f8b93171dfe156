-- Each answer of the reader decides.
use Rattle.std.proofs.Common.{ap, arith, drop, length, subst, sym, ◌+◌, ◌-◌, ◌∙◌}
use Rattle.ts_session.specs.Chunks.{FollowsTo}
use Rattle.ts_session.specs.Finding.{GoesOnChunked}
use Rattle.ts_session.specs.declared.chunks.Followed.TheVariants as N
use Rattle.ts_session.specs.declared.request.Reading.TheVariants as R
use Rattle.ts_session.proofs.Decisions.{goes_nowhere, goes_on_chunked, goes_to_end}
use Rattle.ts_session.proofs.request.Request.follow.Goals as goal

pub returns-in-On : goal.returns-in-On
returns-in-On c =
    let old = c.args.self.now in
    goes_on_chunked old c.args.fresh c.requires c.follow.new.self
    (λ front amid. subst (λ last. FollowsTo front last c.follow.new.self N.On)
    (c.split_at.ensures.back ∙ (λ i. drop (c.len.ensures i - c.args.fresh) (c.bytes.ensures.value i)))
    (c.in-On.ensures.follows front amid))

pub returns-in-Ended : goal.returns-in-Ended
returns-in-Ended c =
    let old = c.args.self.now in
    let count = c.in-Ended.count in
    let last = c.split_at.ensures.back ∙ (λ i. drop (c.len.ensures i - c.args.fresh) (c.bytes.ensures.value i)) in
    subst (λ len. GoesOnChunked c.args.fresh old
    (record old { chunks = c.follow.new.self; reading = R.Known ((len - c.args.fresh) + count) })) (sym c.len.ensures)
    (goes_to_end old c.args.fresh c.requires c.follow.new.self count
    (omega (arith, c.in-Ended.ensures.within, ap length last))
    (λ front amid. subst (λ last. FollowsTo front last c.follow.new.self (N.Ended count)) last
    (c.in-Ended.ensures.follows front amid)))

pub returns-in-Never : goal.returns-in-Never
returns-in-Never c =
    let old = c.args.self.now in
    goes_nowhere old c.args.fresh c.requires c.follow.new.self
    (λ front amid. subst (λ last. FollowsTo front last c.follow.new.self N.Never)
    (c.split_at.ensures.back ∙ (λ i. drop (c.len.ensures i - c.args.fresh) (c.bytes.ensures.value i)))
    (c.in-Never.ensures.follows front amid))
