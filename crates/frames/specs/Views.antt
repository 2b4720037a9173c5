-- What the frames of the code are in terms of the definitions.
use Rattle.frames.specs.declared.frames.Frames.{Frames}
use Rattle.frames.specs.Raw.{Raw}

-- The table file in memory.
abbrev pub raw : Frames → Raw
raw f = record { store = f.store.now; starts = f.starts.now; frames = f.frames; bytes = f.bytes }
