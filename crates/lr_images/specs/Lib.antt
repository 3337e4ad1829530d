pub mod Drive
pub mod Created
pub mod Cat
pub mod Made
pub mod Answered
