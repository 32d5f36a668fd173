-- What was read of a file decides what is written of it.
mod Listed
