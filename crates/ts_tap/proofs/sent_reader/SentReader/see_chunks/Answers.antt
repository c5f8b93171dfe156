-- A part of a body in chunks was seen; behind its end all the rest.
use Rattle.std.proofs.Common.{List, ℕ, drop, slice_range, sym, ap, refl, subst, ◌∙◌}
use Rattle.ts_tap.specs.Sending.{SeesFront, Sent}
use Rattle.ts_tap.proofs.Seeing.{chunks_seen}
use Rattle.ts_tap.proofs.sent_reader.SentReader.see_chunks.Goals as goal

pub returns : goal.returns
returns c =
    let s = c.self.inside in
    let fed = c.feed-fed.result in
    let bytes = c.args.bytes.now in
    let found = slice_range bytes fed.from fed.to in
    let old : Sent = record { part = s.part; tail = s.tail.items; chunks = s.chunks } in
    let new : Sent = record { part = s.part; tail = s.tail.items; chunks = c.feed-fed.new.self } in
    let rest_is = c.split_at.ensures.back ∙ ap (λ n. drop n bytes) c.passed.ensures in
    subst (λ (o : Sent). SeesFront o new bytes found c.split_at.result.1.now) c.self.view_is
    (subst (λ (l : List ℕ). SeesFront old new bytes found l) (sym rest_is)
    (chunks_seen old c.feed-fed.new.self bytes fed c.feed-fed.ensures.takes c.feed-fed.ensures.goes_on
    (ap (λ (o : Sent). o.part) c.self.view_is ∙ c.requires.part) c.requires.some c.feed-fed.ensures.stays
    c.feed-fed.ensures.rests fed.state refl))
