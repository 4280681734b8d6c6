pub mod BookFile
