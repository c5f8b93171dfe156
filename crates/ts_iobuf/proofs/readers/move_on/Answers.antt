-- Moving one reader, finding the least place and counting every place from it is one settled list of slots.
use Rattle.std.proofs.Common.{◌≤◌, ◌+◌, map, arith, ◌∙◌, ap}
use Rattle.ts_iobuf.specs.Places.{place_in, lowered}
use Rattle.ts_iobuf.proofs.Places.{settled-steps, the_some, least_place-le, settled-within, settled-live, settled-moved, settled-others}
use Rattle.ts_iobuf.proofs.readers.move_on.Goals as goal

pub returns : goal.returns
returns c =
    let ss = c.args.slots.now in
    let stands = the_some (place_in ss c.args.reader) (λ p. p + c.args.n ≤ c.args.most) c.requires.reader in
    let steps = settled-steps ss c.advance.new.slots c.lower.new.slots c.args.reader c.args.n c.args.most
    c.least-passed.result
    c.advance.ensures c.least-passed.ensures c.lower.ensures in
    record {
      least = steps.1;
      slots = c.lower.ensures ∙ ap (λ m. map (lowered c.least-passed.result) m) c.advance.ensures;
      within = (
        omega (arith, least_place-le c.advance.new.slots c.args.most, c.least-passed.ensures),
        rw (steps.0, steps.1) (settled-within ss c.args.reader c.args.n c.args.most _ stands.0 stands.1
            c.requires.within),
      );
      live = λ q. rw (steps.0) (settled-live ss c.args.reader q c.args.n c.args.most _ stands.0);
      moved = λ bytes. rw (steps.0, steps.1) (settled-moved ss c.args.reader c.args.n c.args.most _ bytes
          stands.0);
      others = λ bytes q other. rw (steps.0, steps.1)
          (settled-others ss c.args.reader q c.args.n c.args.most _ bytes stands.0 other);
    }
