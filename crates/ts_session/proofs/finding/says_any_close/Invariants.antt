use Rattle.std.proofs.Common.{◌≡◌, map, take}
use Rattle.std.specs.Prelude.{codes}
use Rattle.std.specs.List.{list_any}
use Rattle.ts_wire.specs.Forward.{names_option}
use Rattle.ts_wire.specs.Heads.{span_field}
use Rattle.ts_session.proofs.finding.says_any_close.Given as goal

-- whether one of the headers so far has the member
abbrev pub invariant-loop-header : goal.invariant-loop-header
invariant-loop-header l =
    l.closes ≡ list_any (names_option (codes "close"))
    (map (span_field l.text) (take l.header-index l.headers))
