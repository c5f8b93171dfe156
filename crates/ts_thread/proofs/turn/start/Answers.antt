use Rattle.ts_thread.proofs.Worked.{grows_goes}
use Rattle.ts_thread.proofs.turn.start.Goals as goal

pub returns : goal.returns
returns g c =
    let started = c.start.ensures in
    record {
      starts = record {
        goes = grows_goes g.W.Slotted.fits c.args.group.now c.start.new.self c.known.ensures.valid
            started.grows started.turn started.promises.tags;
        sound = started.sound;
        begun = started.begun;
        few = started.few;
      };
    }
