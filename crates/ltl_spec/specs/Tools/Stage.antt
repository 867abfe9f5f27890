-- How the calls on a stream of bytes went so far.

-- Open: each call did what was asked, a write took some of its bytes, and a read gave some. Closed: so did all calls but the last one, which
-- flushed the output or found the end of the input. Broken: the last call failed. Misused: there was a call behind one of these.
pub data Stage : Type 0 where
  Open Closed Broken Misused : Stage

-- the stage behind a call that leads from Open to s
abbrev pub behind : Stage → Stage → Stage
behind Open s = s
behind _ s = Misused
