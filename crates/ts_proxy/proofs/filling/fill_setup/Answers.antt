-- Line by line, in the order of the text.
use Rattle.std.proofs.Common.{◌≡◌, ℕ, ◌+◌, ◌≤◌, List, [], length, drop, ap, sym, ◌∙◌, arith}
use Rattle.ts_config.specs.Setup.{lines_of}
use Rattle.ts_config.specs.declared.setup.FilePlace.{FilePlace}
use Rattle.ts_proxy.specs.Outcome.{place_filled}
use Rattle.ts_proxy.proofs.FilledLines.{cut-at, fills-more, named-in-config, stopped-comes}
use Rattle.ts_proxy.proofs.filling.fill_setup.Goals as goal

pub loop-k-preserved : goal.loop-k-preserved
loop-k-preserved g c =
    let files = (g.S.Shelf.seen c.args.shelf.now).file in
    let all : List FilePlace = c.args.setup.files.items in
    let held : List FilePlace = c.loop-k.setup.files.items in
    let place : FilePlace = c.index-place.result.now in
    let k : ℕ = c.loop-k.k in
    let kept : held ≡ all = ap (λ v. v.items) c.loop-k.invariant.lines.places in
    let below : k + 1 ≤ length all = omega (arith, c.loop-k-test.true, c.len.ensures, ap length kept) in
    record {
      told = λ tells.
          fills-more files all (lines_of c.args.setup) (drop k all) (drop (k + 1) all) place
          (lines_of c.loop-k.setup) (lines_of c.fill_one.new.setup) (c.loop-k.invariant.told tells)
          (cut-at all held k place kept below c.index-place.ensures)
          (λ next. ap (λ fs. place_filled fs place (lines_of c.loop-k.setup) next)
          (sym (c.loop-k.invariant.files tells)) ∙ c.in-Ok.ensures.told tells [] [] next)
          c.in-Ok.ensures.lines.names;
      lines = record {
        lines = c.in-Ok.ensures.lines.lines ∙ c.loop-k.invariant.lines.lines;
        names = λ p. c.in-Ok.ensures.lines.names p ∙ c.loop-k.invariant.lines.names p;
        places = c.in-Ok.ensures.lines.places ∙ c.loop-k.invariant.lines.places;
      };
      within = below;
      files = λ tells. c.in-Ok.ensures.files tells ∙ c.loop-k.invariant.files tells;
      faults = c.in-Ok.ensures.same.faults ∙ c.loop-k.invariant.faults;
      longs = c.in-Ok.ensures.same.longs ∙ c.loop-k.invariant.longs;
    }

pub returns-in-Err-clause-named : goal.returns-in-Err-clause-named
returns-in-Err-clause-named g c = λ tells.
    let files = (g.S.Shelf.seen c.args.shelf.now).file in
    let all : List FilePlace = c.args.setup.files.items in
    let held : List FilePlace = c.loop-k.setup.files.items in
    let k : ℕ = c.loop-k.k in
    let kept : held ≡ all = ap (λ v. v.items) c.loop-k.invariant.lines.places in
    let below : k + 1 ≤ length all = omega (arith, c.loop-k-test.true, c.len.ensures, ap length kept) in
    stopped-comes files all (lines_of c.args.setup) (drop k all) (drop (k + 1) all) c.index-place.result.now
    (lines_of c.loop-k.setup) c.in-Err.answer (c.loop-k.invariant.told tells)
    (cut-at all held k c.index-place.result.now kept below c.index-place.ensures) c.in-Err.ensures.named

pub returns-in-Err-clause-of_line : goal.returns-in-Err-clause-of_line
returns-in-Err-clause-of_line g c =
    named-in-config (lines_of c.loop-k.setup) c.index-place.result.now c.in-Err.answer c.in-Err.ensures.named
