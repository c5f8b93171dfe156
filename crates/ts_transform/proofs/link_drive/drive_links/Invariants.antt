use Rattle.std.specs.Prelude.{◌≡◌, ◌≤◌, ◌+◌, false}
use Rattle.ts_transform.specs.Carrying.{CarriesTo, GoesOnBySome, IsCarriedGroup}
use Rattle.ts_transform.proofs.link_drive.drive_links.Given as goal

-- between two turns each duty has its event, and all that was moved was carried
abbrev pub invariant-turns : goal.invariant-turns
invariant-turns g l = record {
  idle : l.group.cx.log.state.held ≡ false;
  carried : IsCarriedGroup l.group;
  carries : CarriesTo g.P.Transform.rest g.I.Link.tells g.K.Link.tells g.I.Link.look g.K.Link.look
      l.initial.group.world l.group.world;
  made : l.group.cx.log.state.turns ≡ l.initial.group.cx.log.state.turns + l.made;
  handled : l.initial.group.cx.log.state.handled_count + l.made ≤ l.group.cx.log.state.handled_count;
  goes_on : GoesOnBySome l.initial.group.cx.log l.group.cx.log;
}
