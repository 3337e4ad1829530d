mod Blocks
mod Count
mod CounterFacts
mod ExampleFacts
mod Hash
mod KeyFacts
mod KeyWords
mod LaneFacts
mod StateFacts
mod TableFacts
mod Twice
pub mod Public
