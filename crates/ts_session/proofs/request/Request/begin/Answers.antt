-- What was found of a head decides.
use Rattle.std.proofs.Common.{ℕ, arith, subst, sym, ◌-◌, ◌∙◌}
use Rattle.ts_session.specs.Finding.{GoesOnChunked}
use Rattle.ts_session.proofs.Decisions.{decides_chunks, decides_known, decides_unknown, with_found}
use Rattle.ts_session.proofs.Following.{first_amid}
use Rattle.ts_session.proofs.Sizes.{sized_small}
use Rattle.ts_session.proofs.request.Request.begin.Goals as goal

pub returns-in-Sized : goal.returns-in-Sized
returns-in-Sized c = decides_known c.args.self.now c.args.found c.requires.found c.in-Sized.size c.in-Sized.is

pub returns-in-Chunked : goal.returns-in-Chunked
returns-in-Chunked c =
    let old = c.args.self.now in
    let found = c.args.found in
    let reader = c.restart.new.self in
    decides_chunks old found c.requires.found reader c.in-Chunked.is (first_amid reader c.restart.ensures)
    c.follow.new.self
    (subst (λ (len : ℕ). GoesOnChunked (len - found.used) (record (with_found old found) { chunks = reader })
    c.follow.new.self) c.len.ensures c.follow.ensures)

pub returns-in-Unknown : goal.returns-in-Unknown
returns-in-Unknown c = decides_unknown c.args.self.now c.args.found c.requires.found c.in-Unknown.is

pub overflow_add-self : goal.overflow_add-self
overflow_add-self c =
    let found = c.requires.found in
    let small = sized_small found.head c.in-Sized.size (sym found.end_is ∙ c.in-Sized.is) in
    omega (arith, found.used_fits, c.requires.fits, small)
