-- The world's own entries stay in the turn.
use Rattle.ts_thread.proofs.Worked.{grows_goes}
use Rattle.ts_thread.proofs.turn.rouse.Goals as goal

pub returns : goal.returns
returns g c =
    let roused = c.rouse.ensures in
    record {
      rouses = record {
        goes = grows_goes g.W.Slotted.fits c.args.group.now c.rouse.new.self c.known.ensures.valid
            roused.grows roused.turn roused.promises.tags;
        sound = roused.sound;
        begun = tt;
        few = roused.few;
      };
    }
