pub mod RootLines
