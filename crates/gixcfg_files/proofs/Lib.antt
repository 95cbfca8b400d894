mod Acting
mod Making
mod PathLemmas
