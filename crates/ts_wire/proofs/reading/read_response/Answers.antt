use Rattle.std.proofs.Common.{ap, arith, Err}
use Rattle.httparse.specs.Grammar.{HasNoResponse}
use Rattle.ts_wire.proofs.OneResponse.{is_one_response, was_read}
use Rattle.ts_wire.proofs.FrontLemmas.{lacks_head, full_of_none, overflows, too_many, lacks_now, never_more, never_lacks, awaits_more}
use Rattle.ts_wire.proofs.ResponseLemmas.{response_found, response_at_own, response_within_own}
use Rattle.ts_wire.proofs.reading.read_response.Goals as goal

pub response_of-requires-clause-at : goal.response_of-requires-clause-at
response_of-requires-clause-at c =
    let some = rw c.in-Ok-Complete.field-0-is at c.in-Ok-Complete.ensures.complete in
    let within = rw c.in-Ok-Complete.field-0-is at c.in-Ok-Complete.ensures.within in
    (some.0, response_at_own c.front-front.result.now _ _ _ c.split_at.ensures.front within some.0 some.1)

pub response_of-requires-clause-short : goal.response_of-requires-clause-short
response_of-requires-clause-short c =
    let within = rw c.in-Ok-Complete.field-0-is at c.in-Ok-Complete.ensures.within in
    omega (arith, c.front-front.ensures.len, c.split_at.ensures.front_len, within.section.len_fits)

pub response_of-requires-clause-within : goal.response_of-requires-clause-within
response_of-requires-clause-within c =
    let within = rw c.in-Ok-Complete.field-0-is at c.in-Ok-Complete.ensures.within in
    response_within_own c.front-front.result.now _ _ _ c.split_at.ensures.front within

pub returns-in_ok-head-in-Ok-Complete-clause-head : goal.returns-in_ok-head-in-Ok-Complete-clause-head
returns-in_ok-head-in-Ok-Complete-clause-head c =
    let some = rw c.in-Ok-Complete.field-0-is at c.in-Ok-Complete.ensures.complete in
    let within = rw c.in-Ok-Complete.field-0-is at c.in-Ok-Complete.ensures.within in
    let own = response_at_own c.front-front.result.now _ _ _ c.split_at.ensures.front within some.0 some.1 in
    response_found c.args.bytes.now _ _ _ _ c.front-front.ensures.value c.parse_response.auto.headers within
    some.0 some.1
    (c.in_ok-head-in-Ok-Complete.ensures some.0 own)

pub returns-in_ok-head-in-Ok-Complete-clause-one : goal.returns-in_ok-head-in-Ok-Complete-clause-one
returns-in_ok-head-in-Ok-Complete-clause-one c =
    is_one_response c.args.bytes.now _ _ (returns-in_ok-head-in-Ok-Complete-clause-head c)

pub returns-in_ok-head-in-Ok-Complete-clause-read : goal.returns-in_ok-head-in-Ok-Complete-clause-read
returns-in_ok-head-in-Ok-Complete-clause-read c =
    was_read c.args.bytes.now _ _ (returns-in_ok-head-in-Ok-Complete-clause-head c)

pub returns-then-bytes-lt-MAX_HEAD-clause-found : goal.returns-then-bytes-lt-MAX_HEAD-clause-found
returns-then-bytes-lt-MAX_HEAD-clause-found c =
    lacks_head c.args.bytes.now _ c.front-front.ensures.value
    (rw c.in-Ok-Partial.field-0-is at c.in-Ok-Partial.ensures.partial)

pub returns-then-bytes-lt-MAX_HEAD-clause-more : goal.returns-then-bytes-lt-MAX_HEAD-clause-more
returns-then-bytes-lt-MAX_HEAD-clause-more c =
    awaits_more c.args.bytes.now _ c.front-front.ensures.value c.if-bytes-lt-MAX_HEAD.true
    (rw c.in-Ok-Partial.field-0-is at c.in-Ok-Partial.ensures.partial)
    (rw c.in-Ok-Partial.field-0-is at c.in-Ok-Partial.ensures.unfinished)

pub returns-else-bytes-lt-MAX_HEAD-clause-found : goal.returns-else-bytes-lt-MAX_HEAD-clause-found
returns-else-bytes-lt-MAX_HEAD-clause-found c =
    lacks_head c.args.bytes.now _ c.front-front.ensures.value
    (rw c.in-Ok-Partial.field-0-is at c.in-Ok-Partial.ensures.partial)

pub returns-else-bytes-lt-MAX_HEAD-clause-too_long : goal.returns-else-bytes-lt-MAX_HEAD-clause-too_long
returns-else-bytes-lt-MAX_HEAD-clause-too_long c =
    full_of_none c.args.bytes.now _ c.front-front.ensures.value c.if-bytes-lt-MAX_HEAD.false
    (rw c.in-Ok-Partial.field-0-is at c.in-Ok-Partial.ensures.partial)

pub returns-in-TooManyHeaders-clause-found : goal.returns-in-TooManyHeaders-clause-found
returns-in-TooManyHeaders-clause-found c =
    lacks_now c.args.bytes.now (overflows c.args.bytes.now _ c.front-front.ensures.value
    c.in-Err.ensures.no_room)

pub returns-in-TooManyHeaders-clause-too_long : goal.returns-in-TooManyHeaders-clause-too_long
returns-in-TooManyHeaders-clause-too_long c =
    too_many c.args.bytes.now _ c.front-front.ensures.value c.in-Err.ensures.no_room
    (c.in-Err.ensures.too_many (ap Err c.in-TooManyHeaders.is))

pub returns-in_default-clause-found : goal.returns-in_default-clause-found
returns-in_default-clause-found c =
    never_lacks c.args.bytes.now (never_more HasNoResponse c.args.bytes.now _ c.front-front.ensures.value
    (c.in-Err.ensures.invalid c.in_default.not-TooManyHeaders))

pub returns-in_default-clause-bad : goal.returns-in_default-clause-bad
returns-in_default-clause-bad c =
    never_more HasNoResponse c.args.bytes.now _ c.front-front.ensures.value
    (c.in-Err.ensures.invalid c.in_default.not-TooManyHeaders)
