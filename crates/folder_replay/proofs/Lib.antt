mod InMemory
mod MemoryCalls
