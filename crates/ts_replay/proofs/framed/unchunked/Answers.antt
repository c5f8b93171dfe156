-- The reader of bodies takes the frames part by part, and gives the body.
use Rattle.std.proofs.Common.{◌∙◌, ◌≤◌, [], length, refl, subst, sym, arith}
use Rattle.std.proofs.lemmas.List.{nil_from_length}
use Rattle.ts_wire.specs.Limits.{body_limit}
use Rattle.ts_wire.specs.declared.framing.Framing.TheVariants as F
use Rattle.ts_wire.specs.Place.{IsFed, state_of}
use Rattle.ts_replay.proofs.Unframing.{all_fed, body_read, fed_more, fewer_left, stopped}
use Rattle.ts_replay.proofs.Plans.{none_of, some_of}
use Rattle.ts_replay.proofs.framed.unchunked.Goals as goal

pub parts-init : goal.parts-init
parts-init c = record {
  front = [];
  text = refl;
  fed = subst (λ b. IsFed F.Chunked [] b c.in_ok-reader.reader) (sym c.in_ok-body.ensures.items)
      c.in_ok-reader.ensures.fed;
}

pub parts-preserved : goal.parts-preserved
parts-preserved c =
    fed_more c.args.framed.now c.parts.rest.now c.parts.body.items c.parts.reader c.feed-fed.new.self
    c.feed-fed.result c.parts.invariant c.split_at.result.1.now c.extend_from_slice.new.self.items
    c.split_at.ensures.back c.in_ok-extend_from_slice.ensures.items c.feed-fed.ensures.goes_on

pub parts-smaller : goal.parts-smaller
parts-smaller c =
    fewer_left c.args.framed.now c.parts.rest.now c.parts.body.items c.parts.reader c.feed-fed.new.self
    c.feed-fed.result c.parts.invariant c.split_at.result.1.now
    (some_of c.is_empty.result _ (length c.parts.rest.now) c.is_empty.ensures c.parts-test.true refl)
    c.in-Unfinished.is
    c.feed-fed.ensures.takes c.feed-fed.ensures.stays c.split_at.ensures.back

pub returns-in_default-clause-body : goal.returns-in_default-clause-body
returns-in_default-clause-body c = λ pieces is.
    let small = c.in_ok-body.body.small in
    let room = c.in_ok-body.ensures.capacity in
    let few : length c.args.framed.now ≤ body_limit = omega (arith, small, room) in
    c.octets_of.ensures.same ∙ body_read c.args.framed.now c.extend_from_slice.new.self.items pieces
    c.feed-fed.result.state is few
    (stopped c.args.framed.now c.parts.rest.now c.parts.body.items c.parts.reader c.feed-fed.new.self
    c.feed-fed.result c.parts.invariant c.extend_from_slice.new.self.items
    c.in_ok-extend_from_slice.ensures.items c.in_default.not-Unfinished c.feed-fed.ensures.body)

pub returns-clause-body : goal.returns-clause-body
returns-clause-body c = λ pieces is.
    let small = c.in_ok-body.body.small in
    let room = c.in_ok-body.ensures.capacity in
    let few : length c.args.framed.now ≤ body_limit = omega (arith, small, room) in
    c.octets_of-2.ensures.same ∙ body_read c.args.framed.now c.parts.body.items pieces
    (state_of c.parts.reader.phase) is few
    (all_fed c.args.framed.now c.parts.rest.now c.parts.body.items c.parts.reader c.parts.invariant
    (nil_from_length c.parts.rest.now
    (none_of c.is_empty.result _ (length c.parts.rest.now) c.is_empty.ensures c.parts-test.false refl)))
