-- What an error of the system is to a shelf and to a sink, by its kind: memory was lacking, or the call
-- failed.
use Rattle.std.specs.Prelude.{if◌then◌else◌}
use Rattle.std.specs.declared.io.ErrorKind.{ErrorKind}
use Rattle.ts_link.specs.declared.shelf.ShelfFault.{ShelfFault}
use Rattle.ts_link.specs.declared.shelf.ShelfFault.TheVariants as S
use Rattle.ts_link.specs.declared.sink.Wrote.{Wrote}
use Rattle.ts_link.specs.declared.sink.Wrote.TheVariants as W
use Rattle.ts_net.specs.Heard.{lacks_memory}

-- what a shelf answers where a file cannot be opened or read
abbrev pub refused_read : ErrorKind → ShelfFault
refused_read kind = if lacks_memory kind then S.NoMemory else S.Failed

-- what a sink answers where a piece cannot be written
abbrev pub refused_write : ErrorKind → Wrote
refused_write kind = if lacks_memory kind then W.NoMemory else W.Failed
