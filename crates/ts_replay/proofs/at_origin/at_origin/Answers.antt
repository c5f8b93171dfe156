-- The head ends with the first empty line, and what stands behind it is the body.
use Rattle.std.proofs.Common.{◌∙◌}
use Rattle.ts_replay.proofs.Taking.{found_behind, found_same, none_same}
use Rattle.ts_replay.proofs.at_origin.at_origin.Goals as goal

pub upload_of-requires : goal.upload_of-requires
upload_of-requires c =
    let at = c.requires.0 in (
      at.upload,
      found_behind c.args.taken.now c.args.mode at c.in-Some.place c.split_at.result.1.now c.in-Some.ensures
          c.split_at.ensures.back c.requires.1,
    )

pub returns-in_ok-request-in-Some : goal.returns-in_ok-request-in-Some
returns-in_ok-request-in-Some c = λ at is.
    found_same c.args.taken.now c.args.mode at c.in-Some.place c.in_ok-request-in-Some.request
    c.in_ok-upload-in-Some.upload c.in-Some.ensures
    (c.in_ok-request-in-Some.ensures ∙ c.split_at.ensures.front)
    (c.in_ok-upload-in-Some.ensures at.upload (found_behind c.args.taken.now c.args.mode at c.in-Some.place
    c.split_at.result.1.now c.in-Some.ensures c.split_at.ensures.back is)) is

pub returns-in-None : goal.returns-in-None
returns-in-None c = λ at is.
    none_same c.args.taken.now c.args.mode at c.of_vec.result c.in-None.ensures
    (c.of_vec.ensures ∙ c.new.ensures.items) is
